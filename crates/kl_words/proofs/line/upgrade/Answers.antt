use Rattle.std.proofs.Common.{◌∙◌, ap₂}
use Rattle.std.proofs.lemmas.Result.{IfOk-weaker}
use Rattle.clap.specs.Words.{with_rule}
use Rattle.kl_words.specs.Lines.{upgrade_line}
use Rattle.kl_words.proofs.line.upgrade.Goals as goal

pub returns : goal.returns
unfolding upgrade_line
returns c =
    let one = c.in_ok-arg.ensures.shape c.place.ensures.local ∙ ap₂ with_rule c.new.ensures.app c.place.ensures.rule in
    IfOk-weaker c.arg-2.result _ _ (λ r h. (h.shape c.place-2.ensures.local ∙ ap₂ with_rule one c.place-2.ensures.rule)) c.arg-2.ensures
