use Rattle.kl_rows.specs.Finite.{Sofar}
use Rattle.kl_rows.proofs.finite.pass.Given as goal

abbrev pub invariant-loop-i : goal.invariant-loop-i
invariant-loop-i l = Sofar l.any l.cells l.initial.marks.items l.marks.items l.order.items l.i
