use Rattle.std.proofs.Common.{◌≡◌, Some, map, slice_get, take}
use Rattle.kl_flat.specs.Held.{fields_at}
use Rattle.kl_flat.proofs.column_table.ColumnTable.row.Given as goal

abbrev pub invariant-loop-place : goal.invariant-loop-place
invariant-loop-place l = map Some l.fields.items ≡ map (slice_get (fields_at l.columns l.at)) (take l.place-index l.places)
