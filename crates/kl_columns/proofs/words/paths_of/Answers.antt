use Rattle.std.proofs.Common.{◌∙◌, ◌∷◌, ◌++◌, [], not, string_bytes, sym}
use Rattle.kl_columns.specs.Words.{is_option, paths_of}
use Rattle.kl_columns.proofs.Walked.{kept_more}
use Rattle.kl_columns.proofs.words.paths_of.Goals as goal

pub loop-word-preserved : goal.loop-word-preserved
loop-word-preserved c =
    c.in_ok-add_path.ensures ∙ (λ j. c.loop-word.invariant j ++ paths_of (c.as_bytes.ensures.value j ∷ []))
    ∙ sym (kept_more (λ word. not (is_option word)) string_bytes c.args.words.now c.loop-word.word-index c.word-item.result c.loop-word-test.true c.word-item.is)
