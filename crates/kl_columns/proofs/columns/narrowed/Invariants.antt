use Rattle.std.proofs.Common.{◌≡◌, map, take, length}
use Rattle.kl_flat.specs.ColumnTable.{rows_of}
use Rattle.kl_columns.specs.Narrowing.{narrow_type}
use Rattle.kl_columns.proofs.columns.narrowed.Given as goal

abbrev pub invariant-loop-column : goal.invariant-loop-column
invariant-loop-column l = l.fields.items ≡ map (λ c. (c.label, narrow_type (length (rows_of l.table)) c.cells)) (take l.column-index l.columns)
