use Rattle.std.proofs.Common.{◌≡◌, drop}
use Rattle.kl_core.specs.Trees.{Tree}
use Rattle.kl_ship.specs.Delegation.{taken}
use Rattle.kl_ship.proofs.BodyParts.{Fronted}
use Rattle.kl_ship.proofs.bodies.conditions_take_none.Given as goal

abbrev pub invariant-loop-condition : goal.invariant-loop-condition
invariant-loop-condition l =
    (b s : Tree) → taken l.fn.kind 1 (Fronted l.fn.kind b s (drop l.condition-index l.conditions))
    ≡ taken l.fn.kind 1 (Fronted l.fn.kind b s l.conditions)
