use Rattle.std.proofs.Common.{◌≡◌, List, ℕ, ◌++◌, length}
use Rattle.kl_value.specs.Quoted.{Parts}
use Rattle.kl_lex.proofs.quoted.text_at.Given as goal

abbrev pub decreases-parts : goal.decreases-parts
decreases-parts l = length l.rest

abbrev pub invariant-parts : goal.invariant-parts
invariant-parts l = (u : List ℕ) × (l.bytes ≡ u ++ l.rest) × Parts l.meant.items u
