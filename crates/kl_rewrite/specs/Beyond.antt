-- Where a step below a node changes nothing of what the rules see at the node: behind a second condition under a condition, and
-- behind a condition in the body of a loop. No public contract cites this.
use Rattle.std.specs.Prelude.{ℕ, Bool, true, false, ◌&&◌, nat_eq, List, [], ◌∷◌}
use Rattle.kl_core.specs.Trees.{Tree, Const, Ext, If, Let}

-- of the rules for a condition only the last may fit
abbrev pub stays_tested : Tree → Bool
stays_tested (Const v) = false
stays_tested (If a b c) = false
stays_tested t = true

-- of the rules for a loop none that takes the source apart fits, but those that leave nothing or one item of it
abbrev pub stays_drawn : Tree → Bool
stays_drawn (Ext k b s) = false
stays_drawn (If a b c) = false
stays_drawn (Let a b) = false
stays_drawn t = true

-- the part with the number is what stands behind the test, where the term is a condition
abbrev pub behind_test : Tree → ℕ → Bool
behind_test (If a b c) j = nat_eq j 1
behind_test t j = true

abbrev pub beyond_parts : ℕ → ℕ → Tree → Bool
beyond_parts i j (If c b e) = (nat_eq i 1 && stays_tested c) && behind_test b j
beyond_parts i j (Ext k b s) = (nat_eq i 0 && stays_drawn s) && behind_test b j
beyond_parts i j t = false

-- by the numbers of the parts that lead from the node to the step
abbrev pub is_beyond : List ℕ → Tree → Bool
is_beyond [] t = false
is_beyond (i ∷ []) t = false
is_beyond (i ∷ j ∷ p) t = beyond_parts i j t
