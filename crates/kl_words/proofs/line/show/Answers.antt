use Rattle.std.proofs.Common.{◌∙◌, ap₂}
use Rattle.std.proofs.lemmas.Result.{IfOk-weaker}
use Rattle.clap.specs.Words.{with_rule}
use Rattle.kl_words.specs.Lines.{show_line}
use Rattle.kl_words.proofs.line.show.Goals as goal

pub returns : goal.returns
unfolding show_line
returns c = IfOk-weaker c.arg.result _ _ (λ r h. (h.shape c.place.ensures.local ∙ ap₂ with_rule c.new.ensures.app c.place.ensures.rule)) c.arg.ensures
