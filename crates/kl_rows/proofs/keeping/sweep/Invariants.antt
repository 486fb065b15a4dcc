use Rattle.kl_rows.specs.Keeping.{SweptTo}
use Rattle.kl_rows.proofs.keeping.sweep.Given as goal

abbrev pub invariant-cells : goal.invariant-cells
invariant-cells l = SweptTo l.any l.cells l.initial.kept.items l.kept.items l.i
