use Rattle.std.proofs.Common.{◌≡◌, ◌≤◌, take}
use Rattle.csv.specs.Records.{fields_of}
use Rattle.kl_flat.specs.Table.{times}
use Rattle.kl_columns.proofs.header.times.Given as goal

abbrev pub invariant-cells : goal.invariant-cells
invariant-cells l = record { counted : l.count ≡ times l.name (take l.i (fields_of l.header)); few : l.count ≤ l.i }
