use Rattle.std.proofs.Common.{◌≡◌, take}
use Rattle.kl_flat.specs.Held.{fields_at}
use Rattle.kl_flat.proofs.column_table.ColumnTable.whole_row.Given as goal

abbrev pub invariant-loop-column : goal.invariant-loop-column
invariant-loop-column l = l.fields.items ≡ fields_at (take l.column-index l.columns) l.at
