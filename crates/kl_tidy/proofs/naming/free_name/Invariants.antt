use Rattle.std.proofs.Common.{◌≡◌, ◌≤◌, ◌<◌, ℕ, false}
use Rattle.kl_json.specs.Meaning.{as_word}
use Rattle.kl_tidy.specs.Naming.{is_free, numbered}
use Rattle.kl_tidy.proofs.naming.free_name.Given as goal

abbrev pub invariant-numbers : goal.invariant-numbers
invariant-numbers l = (n : ℕ) → 1 ≤ n → n < l.number → is_free l.names (numbered (as_word l.cell) n) ≡ false
