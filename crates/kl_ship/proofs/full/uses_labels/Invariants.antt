use Rattle.std.specs.List.{AllByRecursion}
use Rattle.kl_ship.specs.Full.{IsUsed}
use Rattle.kl_ship.specs.Bodies.{body_view}
use Rattle.kl_ship.proofs.Deciding.{Walked}
use Rattle.kl_ship.proofs.full.uses_labels.Given as goal

abbrev pub invariant-loop-label : goal.invariant-loop-label
invariant-loop-label l = Walked (IsUsed (body_view l.body)) (AllByRecursion (IsUsed (body_view l.body))) (λ x xs h. h)
    (λ x xs q h. (q, h)) l.label-index l.labels
