use Rattle.std.proofs.Common.{map}
use Rattle.std.specs.List.{AllByRecursion}
use Rattle.kl_ship.specs.Full.{IsUsed}
use Rattle.kl_ship.specs.Bodies.{body_view}
use Rattle.kl_ship.proofs.Deciding.{Walked}
use Rattle.kl_ship.proofs.full.uses_columns.Given as goal

abbrev pub invariant-loop-column : goal.invariant-loop-column
invariant-loop-column l =
    Walked (λ x. IsUsed (body_view l.body) x.2) (λ xs. AllByRecursion (IsUsed (body_view l.body)) (map (λ c. c.2) xs)) (λ x xs h. h)
    (λ x xs q h. (q, h)) l.column-index l.columns
