use Rattle.std.proofs.Common.{◌≡◌, ℕ, drop}
use Rattle.kl_base.specs.Fields.{field}
use Rattle.kl_flat.specs.Held.{fields_at}
use Rattle.kl_flat.proofs.column_table.ColumnTable.column.Given as goal

abbrev pub invariant-loop-column : goal.invariant-loop-column
invariant-loop-column l = (i : ℕ) → field l.label (fields_at l.self.columns.items i) ≡ field l.label (fields_at (drop l.column-index l.self.columns.items) i)
