use Rattle.std.proofs.Common.{[], take}
use Rattle.csv.specs.Records.{fields_of}
use Rattle.kl_tidy.specs.Naming.{AreNames}
use Rattle.kl_tidy.proofs.naming.names_of.Given as goal

abbrev pub invariant-cells : goal.invariant-cells
invariant-cells l = AreNames [] (take l.i (fields_of l.header)) l.names.items
