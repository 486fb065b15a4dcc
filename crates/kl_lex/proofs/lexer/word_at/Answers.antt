use Rattle.std.proofs.Common.{sym, ◌∙◌}
use Rattle.kl_lex.proofs.Fronts.{cut}
use Rattle.kl_lex.proofs.Readings.{word_labelled, word_has_label}
use Rattle.kl_lex.proofs.lexer.word_at.Goals as goal

pub returns-in-None : goal.returns-in-None
returns-in-None c =
    absurd (word_has_label c.args.bytes.now c.split_at.result.0.now c.requires (rw c.word_run.ensures.value at c.split_at.ensures.front) (sym c.in-None.is ∙ c.in_ok-new.ensures))

pub returns-in-Some : goal.returns-in-Some
returns-in-Some c =
    word_labelled c.args.bytes.now c.split_at.result.0.now c.split_at.result.1.now c.in-Some.label c.requires
    (rw c.word_run.ensures.value at c.split_at.ensures.front)
    (cut c.args.bytes.now c.split_at.result.0.now c.split_at.result.1.now c.word_run.result c.split_at.ensures.front c.split_at.ensures.back)
    (sym c.in-Some.is ∙ c.in_ok-new.ensures)
