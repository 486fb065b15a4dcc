use Rattle.std.proofs.Common.{◌≡◌, ◌<◌, ◌++◌, All, drop, length, map}
use Rattle.std.specs.HashSet.{contains}
use Rattle.kl_flat.specs.ColumnTable.{rows_of}
use Rattle.kl_flat.specs.Held.{row_at}
use Rattle.kl_sqltext.specs.Meaning.{without_repeats}
use Rattle.kl_sqlserve.specs.Keys.{same_key}
use Rattle.kl_sqlserve.specs.Repeats.{fresh}
use Rattle.kl_sqlserve.proofs.attaching.first_places.Given as goal

abbrev pub invariant-rows : goal.invariant-rows
invariant-rows l = record {
  first : map (row_at l.table.columns.items) l.places.items ++ fresh (contains same_key l.seen) (drop l.at (rows_of l.table)) ≡ without_repeats (rows_of l.table);
  there : All (λ p. p < length (rows_of l.table)) l.places.items;
}
