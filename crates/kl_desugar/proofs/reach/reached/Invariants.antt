use Rattle.std.proofs.Common.{drop}
use Rattle.kl_syntax.specs.View.{view}
use Rattle.kl_desugar.proofs.Naming.{Found}
use Rattle.kl_desugar.proofs.reach.reached.Given as goal

abbrev pub invariant-defs : goal.invariant-defs
invariant-defs l = Found l.wanted l.found.items (drop l.i l.defs) (view l.program.last)
