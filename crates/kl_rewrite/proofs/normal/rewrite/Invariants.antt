use Rattle.std.proofs.Common.{◌-◌, ◌≤◌}
use Rattle.kl_core.specs.Trees.{view}
use Rattle.kl_rewrite.specs.Steps.{Steps}
use Rattle.kl_rewrite.specs.Walking.{IsAt}
use Rattle.kl_rewrite.proofs.normal.rewrite.Given as goal

abbrev pub invariant-steps : goal.invariant-steps
invariant-steps l = record {
  few : l.steps ≤ 65536;
  at : IsAt (view l.term) l.walk;
  steps : Steps l.steps (view l.fn.term) (view l.term);
}

abbrev pub decreases-steps : goal.decreases-steps
decreases-steps l = 65536 - l.steps
