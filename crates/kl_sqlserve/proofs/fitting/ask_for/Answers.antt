use Rattle.std.proofs.Common.{◌≡◌, false, sym, ◌∙◌, subst}
use Rattle.kl_sqltext.proofs.Answer.{unique}
use Rattle.kl_sqlserve.specs.Fitting.{is_fitting}
use Rattle.kl_sqlserve.proofs.fitting.ask_for.Goals as goal

pub returns-in-Ok : goal.returns-in-Ok
returns-in-Ok c = λ q reads.
    subst (λ p. is_fitting c.args.sources.now p ≡ false) (unique c.args.text.now c.in-Ok.statement q c.in-Ok.ensures.reads reads) (sym c.is_fitting.ensures ∙ c.if-is_fitting.false)

pub returns-in-Err-Bad : goal.returns-in-Err-Bad
returns-in-Err-Bad c = λ q reads. (let bad = c.in-Err-Bad.ensures.only q reads in absurd cc)
