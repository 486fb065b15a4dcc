use Rattle.std.proofs.Common.{◌≡◌, ◌++◌}
use Rattle.kl_plan.specs.Nodes.{view}
use Rattle.kl_plan.specs.Occurs.{frees_in}
use Rattle.kl_joins.proofs.Positioned.{frees_above}
use Rattle.kl_joins.proofs.frees.frees_of.Given as goal

abbrev pub invariant-loop-at : goal.invariant-loop-at
invariant-loop-at l = l.frees.items ++ frees_above l.at l.depth (view l.plan) ≡ frees_in l.depth (view l.plan)
