use Rattle.std.proofs.Common.{◌≡◌, ◌++◌, drop}
use Rattle.kl_flat.specs.Asked.{kept_places}
use Rattle.kl_flat.specs.Held.{labels_in}
use Rattle.kl_flat.proofs.column_table.ColumnTable.places.Given as goal

abbrev pub invariant-columns : goal.invariant-columns
invariant-columns l = kept_places l.keep 0 (labels_in l.columns) ≡ l.places.items ++ kept_places l.keep l.place (labels_in (drop l.place l.columns))
