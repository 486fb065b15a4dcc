-- What a rule's call answers.
use Rattle.std.specs.Prelude.{◌≡◌, ℕ, ◌<◌, ◌^◌, Option, Some, None, Result, Ok, Err, ⊤}
use Rattle.kl_value.specs.declared.Kind.{Kind}
use Rattle.kl_core.specs.declared.term.Term.{Term}
use Rattle.kl_core.specs.Trees.{Tree, Make, no_trees, trees, view}
use Rattle.kl_core.specs.Leaves.{Leaves}
use Rattle.kl_core.specs.Positions.{AnySource, shift_of}
use Rattle.kl_core.specs.Counts.{nodes_of}
use Rattle.kl_rules.specs.Rules.{Rewriting, empty_of}

-- each position and the number of nodes are so small that no rule makes a position past 32 bits
abbrev pub IsLowPosition : ℕ → Type 0
IsLowPosition x = x < 2 ^ 31

abbrev pub IsShiftable : Tree → Type 0
IsShiftable t = Leaves IsLowPosition AnySource t × (nodes_of t < 2 ^ 31)

-- The one term that the rule makes of t, or none where it makes none.
abbrev pub IsRewritten : Rewriting → Tree → Option Term → Type 0
IsRewritten R t (Some v) = R t (view v) × ((u : Tree) → R t u → u ≡ view v)
IsRewritten R t None = (u : Tree) → R t u → ⊥

abbrev pub RewritesBy : {E : Type 0} → Rewriting → Tree → Result (Option Term) E → Type 0
RewritesBy R t (Ok o) = IsRewritten R t o
RewritesBy R t (Err e) = ⊤

-- The term without what the nearest binder binds: the one that it is one position above, or none where it mentions that.
abbrev pub IsLowered : Tree → Option Term → Type 0
IsLowered t (Some v) = t ≡ shift_of (view v) 0 1
IsLowered t None = (u : Tree) → t ≡ shift_of u 0 1 → ⊥

abbrev pub Lowers : {E : Type 0} → Tree → Result (Option Term) E → Type 0
Lowers t (Ok o) = IsLowered t o
Lowers t (Err e) = ⊤

-- The kind of an empty collection, or none where the term is none.
abbrev pub IsEmptyCollection : Tree → Option Kind → Type 0
IsEmptyCollection t (Some k) = t ≡ empty_of k
IsEmptyCollection t None = (k : Kind) → t ≡ empty_of k → ⊥

-- The kind of two empty collections of one kind, or none where they are none.
abbrev pub AreEmptyCollections : Tree → Tree → Option Kind → Type 0
AreEmptyCollections t u (Some k) = (t ≡ empty_of k) × (u ≡ empty_of k)
AreEmptyCollections t u None = (k : Kind) → t ≡ empty_of k → u ≡ empty_of k → ⊥

-- The item of a collection of one, or none where the term is none.
abbrev pub IsOnlyItem : Tree → Option Term → Type 0
IsOnlyItem t (Some s) = (k : Kind) × (t ≡ Make k (trees (view s) no_trees))
IsOnlyItem t None = (k : Kind) (s : Tree) → t ≡ Make k (trees s no_trees) → ⊥
