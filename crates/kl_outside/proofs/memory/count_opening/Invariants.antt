use Rattle.std.proofs.Common.{◌≡◌, ◌++◌, map, take, drop}
use Rattle.kl_outside.specs.Changes.{opened_once}
use Rattle.kl_outside.proofs.memory.count_opening.Given as goal

abbrev pub invariant-loop-change : goal.invariant-loop-change
invariant-loop-change l = l.changes ≡ map (opened_once l.path) (take l.change-index l.initial.changes) ++ drop l.change-index l.initial.changes
