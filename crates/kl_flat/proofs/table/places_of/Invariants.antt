use Rattle.std.proofs.Common.{◌≡◌, true, map, take, Some}
use Rattle.csv.specs.Records.{field_at, fields_of}
use Rattle.kl_flat.specs.Table.{is_header}
use Rattle.kl_flat.proofs.table.places_of.Given as goal

abbrev pub invariant-loop-column : goal.invariant-loop-column
invariant-loop-column l = record {
  labels : map (field_at (fields_of l.header)) l.places.items ≡ map (λ c. Some c.0) (take l.column-index l.columns);
  once : is_header (take l.column-index l.columns) (fields_of l.header) ≡ true;
}
