use Rattle.std.proofs.Common.{take}
use Rattle.kl_flat.proofs.Picking.{PicksSome}
use Rattle.kl_flat.proofs.column_table.picked_columns.Given as goal

abbrev pub invariant-loop-column : goal.invariant-loop-column
invariant-loop-column l = PicksSome l.places (take l.column-index l.columns) l.picked.items
