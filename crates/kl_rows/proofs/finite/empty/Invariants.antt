use Rattle.kl_rows.specs.Finite.{Marked}
use Rattle.kl_rows.proofs.finite.empty.Given as goal

abbrev pub invariant-stack : goal.invariant-stack
invariant-stack l = Marked l.cells l.marks.items l.order.items
