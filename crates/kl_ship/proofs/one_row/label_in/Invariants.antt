use Rattle.std.proofs.Common.{◌≡◌, drop}
use Rattle.kl_ship.specs.Joined.{label_in}
use Rattle.kl_ship.proofs.one_row.label_in.Given as goal

abbrev pub invariant-loop-column : goal.invariant-loop-column
invariant-loop-column l = label_in l.columns l.table l.label ≡ label_in (drop l.column-index l.columns) l.table l.label
