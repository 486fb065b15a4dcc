use Rattle.std.proofs.Common.{◌≡◌, map, take}
use Rattle.kl_sqlserve.specs.Placing.{placed_column}
use Rattle.kl_sqlserve.proofs.placing.placed_columns.Given as goal

abbrev pub invariant-loop-column : goal.invariant-loop-column
invariant-loop-column l = l.placed.items ≡ map (placed_column l.sides) (take l.column-index l.order)
