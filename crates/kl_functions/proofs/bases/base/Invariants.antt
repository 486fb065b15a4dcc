use Rattle.std.proofs.Common.{◌≡◌, ℕ, ◌<◌, true}
use Rattle.kl_functions.specs.Bases.{nth_base, is_begun}
use Rattle.kl_functions.proofs.bases.base.Given as goal

abbrev pub invariant-tries : goal.invariant-tries
invariant-tries l = (n : ℕ) × (l.bytes.items ≡ nth_base n) × ((m : ℕ) → m < n → is_begun l.defs l.sources (nth_base m) ≡ true)
