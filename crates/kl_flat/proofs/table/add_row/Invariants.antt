use Rattle.std.proofs.Common.{ℕ}
use Rattle.csv.specs.Records.{fields_of}
use Rattle.kl_flat.specs.Filling.{AreLevel}
use Rattle.kl_flat.proofs.Filling.{Fills}
use Rattle.kl_flat.proofs.table.add_row.Given as goal

abbrev pub invariant-loop-i : goal.invariant-loop-i
invariant-loop-i l = (n : ℕ) → AreLevel n l.fn.columns → Fills (fields_of l.header) (fields_of l.entry) n l.i l.fn.columns l.columns
