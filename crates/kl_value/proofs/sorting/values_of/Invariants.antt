use Rattle.std.proofs.Common.{◌≡◌, map}
use Rattle.kl_value.proofs.sorting.values_of.Given as goal

abbrev pub invariant-loop-value : goal.invariant-loop-value
invariant-loop-value l = l.all.items ≡ map (λ p. p.1) l.yielded
