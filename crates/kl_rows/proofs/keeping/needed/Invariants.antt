use Rattle.kl_rows.specs.Keeping.{unkept}
use Rattle.kl_rows.proofs.Kept.{Keeping}
use Rattle.kl_rows.proofs.keeping.needed.Given as goal

abbrev pub invariant-passes : goal.invariant-passes
invariant-passes l = Keeping l.cells l.root l.kept.items

abbrev pub decreases-passes : goal.decreases-passes
decreases-passes l = unkept l.kept.items
