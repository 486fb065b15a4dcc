use Rattle.std.proofs.Common.{◌≡◌, take}
use Rattle.kl_flat.specs.Filling.{AreLevel}
use Rattle.kl_flat.specs.Held.{columns_in}
use Rattle.kl_flat.proofs.table.no_rows.Given as goal

abbrev pub invariant-loop-column : goal.invariant-loop-column
invariant-loop-column l = record {
  columns : columns_in l.held.items ≡ take l.column-index l.columns;
  level : AreLevel 0 l.held.items;
}
