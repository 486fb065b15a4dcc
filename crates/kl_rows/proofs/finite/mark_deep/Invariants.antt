use Rattle.kl_rows.specs.Finite.{Marked}
use Rattle.kl_rows.proofs.finite.mark_deep.Given as goal

abbrev pub invariant-cells : goal.invariant-cells
invariant-cells l = Marked l.cells l.marks.items l.order.items
