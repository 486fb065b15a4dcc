-- What a rule that only moves parts makes of a term where it stands.
use Rattle.std.specs.Prelude.{◌≡◌, ℕ, ◌+◌, ◌≤◌, Bool, true, false, Option, Some, None}
use Rattle.kl_value.specs.declared.Kind.{Kind}
use Rattle.kl_core.specs.declared.term.Term.{Term}
use Rattle.kl_core.specs.Trees.{Tree, Ext, If, view}
use Rattle.kl_core.specs.Positions.{shift_of}
use Rattle.kl_core.specs.Counts.{total_in, depth_of}
use Rattle.kl_rules.specs.Guards.{IsFarther}
use Rattle.kl_rules.specs.Rules.{Rewriting, empty_of, FilterPromotion, ConditionOrder}

-- The one term that the rule makes of t, where it nests at most so deep; else t, of which it makes none that does.
abbrev pub MovesWithin : Rewriting → ℕ → Term → Term → Bool → Type 0
MovesWithin R most t u true = R (view t) (view u) × ((v : Tree) → R (view t) v → v ≡ view u) × (depth_of (view u) ≤ most)
MovesWithin R most t u false = (u ≡ t) × ((v : Tree) → R (view t) v → depth_of v ≤ most → ⊥)

-- For private functions alone: two conditions, the second of which is to be tested first, where the first one may sink.
abbrev pub IsUnordered : ℕ → Tree → Bool → Type 0
IsUnordered most t true =
    (k : Kind) × (c d s : Tree) × (t ≡ If c (If d s (empty_of k)) (empty_of k)) × (total_in c ≡ true) × (total_in d ≡ true)
    × IsFarther d c × (2 + depth_of c ≤ most)
IsUnordered most t false = (u : Tree) → ConditionOrder t u → depth_of u ≤ most → ⊥

abbrev pub exchanged : Tree → Tree
exchanged (If c (If d s f) e) = If d (If c s f) e
exchanged t = t

-- The condition in the body of a loop as it stands outside, where it is to be tested before the loop and the source may sink.
abbrev pub IsPromoted : ℕ → Tree → Option Term → Type 0
IsPromoted most t (Some w) =
    (k j : Kind) × (a s : Tree) × (t ≡ Ext k (If (shift_of (view w) 0 1) a (empty_of j)) s) × (total_in (view w) ≡ true)
    × (total_in s ≡ true) × (2 + depth_of s ≤ most)
IsPromoted most t None = (u : Tree) → FilterPromotion t u → depth_of u ≤ most → ⊥

abbrev pub promoted : Tree → Tree → Tree
promoted w (Ext k (If c a e) s) = If w (Ext k a s) e
promoted w t = t
