use Rattle.std.proofs.Common.{◌≡◌, drop}
use Rattle.kl_scope.specs.Caps.{capped}
use Rattle.kl_scope.specs.Sizes.{projected}
use Rattle.kl_scope.proofs.counting.projected.Given as goal

abbrev pub invariant-labels : goal.invariant-labels
invariant-labels l = capped (projected l.size (drop l._label-index l.labels)) ≡ capped (projected l.fn.first l.labels)
