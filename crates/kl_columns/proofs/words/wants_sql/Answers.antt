use Rattle.std.proofs.Common.{◌∙◌, ap, string_bytes, sym}
use Rattle.kl_columns.specs.Words.{is_option}
use Rattle.kl_columns.proofs.Walked.{found_there, none_more}
use Rattle.kl_columns.proofs.words.wants_sql.Goals as goal

pub returns-then-is_option : goal.returns-then-is_option
returns-then-is_option c =
    found_there is_option string_bytes c.args.words.now c.loop-word.word-index c.word-item.result c.loop-word-test.true c.word-item.is
    (ap is_option (sym c.as_bytes.ensures.value) ∙ sym c.is_option.ensures ∙ c.if-is_option.true)

pub loop-word-preserved : goal.loop-word-preserved
loop-word-preserved c =
    none_more is_option string_bytes c.args.words.now c.loop-word.word-index c.word-item.result c.loop-word-test.true c.word-item.is c.loop-word.invariant
    (ap is_option (sym c.as_bytes.ensures.value) ∙ sym c.is_option.ensures ∙ c.if-is_option.false)
