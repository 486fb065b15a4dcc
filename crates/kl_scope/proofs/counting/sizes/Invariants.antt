use Rattle.kl_scope.proofs.LimitLemmas.{Going}
use Rattle.kl_scope.proofs.counting.sizes.Given as goal

abbrev pub invariant-defs : goal.invariant-defs
invariant-defs l = Going l.known.items l.i l.program.defs l.program.last
