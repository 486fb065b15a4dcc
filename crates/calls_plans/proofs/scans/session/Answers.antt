use Rattle.std.proofs.Common.{◌<◌, refl, sym, subst, ◌∙◌, arith}
use Rattle.calls_plans.proofs.Scannable.{can_scan, is_ready}
use Rattle.calls_plans.proofs.scans.session.Goals as goal

pub returns-clause-can : goal.returns-clause-can
returns-clause-can g c =
    λ p. can_scan _ _ _ _ _ _ _ _ refl c.in_ok-push.ensures.items c.new-drivers.ensures.items (c.of-2.ensures ∙ c.in_ok-listed.ensures.items) c.in_ok-source.ensures (c.requires.attached.0, c.requires.attached.1, c.requires.attached.2) c.requires.ty c.requires.driver c.requires.ask

pub returns-clause-ready : goal.returns-clause-ready
returns-clause-ready g c =
    is_ready _ _ _ _ _ _ _ _ refl c.in_ok-push.ensures.items c.new-drivers.ensures.items (c.of-2.ensures ∙ c.in_ok-listed.ensures.items) c.in_ok-source.ensures c.requires.attached c.requires.ty (subst (λ s. 0 < s.fetch) (sym c.usual.ensures) (omega arith))
