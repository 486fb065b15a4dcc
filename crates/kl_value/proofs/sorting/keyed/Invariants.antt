use Rattle.std.proofs.Common.{◌≡◌, map}
use Rattle.kl_value.specs.Keys.{key_of}
use Rattle.kl_value.proofs.sorting.keyed.Given as goal

abbrev pub invariant-loop-value : goal.invariant-loop-value
invariant-loop-value l = l.pairs.items ≡ map (λ v. (key_of v, v)) l.yielded
