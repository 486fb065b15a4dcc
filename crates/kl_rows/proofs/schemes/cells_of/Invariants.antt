use Rattle.std.proofs.Common.{◌≡◌, ◌++◌, drop}
use Rattle.kl_rows.specs.Schemes.{cells_of}
use Rattle.kl_rows.proofs.schemes.cells_of.Given as goal

abbrev pub invariant-loop-part : goal.invariant-loop-part
invariant-loop-part l = l.cells.items ++ cells_of (drop l.part-index l.parts) ≡ cells_of l.parts
