use Rattle.kl_rows.specs.Finite.{left, Marked}
use Rattle.kl_rows.proofs.finite.mark_all.Given as goal

abbrev pub invariant-passes : goal.invariant-passes
invariant-passes l = Marked l.cells l.marks.items l.order.items

abbrev pub decreases-passes : goal.decreases-passes
decreases-passes l = left l.marks.items
