use Rattle.std.proofs.Common.{◌≡◌, take}
use Rattle.kl_flat.specs.ColumnTable.{rows_of}
use Rattle.kl_flat.proofs.table.all_rows.Given as goal

abbrev pub invariant-loop-at : goal.invariant-loop-at
invariant-loop-at l = l.rows.items ≡ take l.at (rows_of l.table)
