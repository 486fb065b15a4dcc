use Rattle.std.proofs.Common.{refl, ◌∙◌}
use Rattle.kl_scope.specs.Breaches.{is_marked}
use Rattle.kl_why.proofs.Attached.{refused_there}
use Rattle.kl_why.proofs.finding.attach.Goals as goal

pub returns-in-Ok : goal.returns-in-Ok
returns-in-Ok g c = (c.in-Ok.ensures (is_marked c.args.scoped.now) (λ i below. refl)).stand

pub returns-in-Some : goal.returns-in-Some
returns-in-Some g c =
    refused_there _ _ _ _ _ _ _ _ _ (c.in-Err.ensures (is_marked c.args.scoped.now) (λ i below. refl)).cause (c.deref-in-Err.ensures.value ∙ c.in_ok-kept.ensures ∙ c.deref.ensures.value) c.in-Some.ensures
    c.in_ok-why_source-in-Some.ensures
