-- The search for a step in a part of a whole: how many nodes more a result may have, and at which level the part stands,
-- say all that is needed of what is outside. No public contract cites this.
use Rattle.std.specs.Prelude.{◌≡◌, ℕ, ◌+◌, ◌≤◌, ◌<◌, true, List, [], ◌∷◌, length, Some, ⊤}
use Rattle.kl_core.specs.Trees.{Tree}
use Rattle.kl_core.specs.Counts.{nodes_of, depth_of}
use Rattle.kl_rules.specs.Rules.{RewriteRule}
use Rattle.kl_rewrite.specs.Places.{part_at, Place, stands_at, with_at}
use Rattle.kl_rewrite.specs.Steps.{IsFirst}
use Rattle.kl_rewrite.specs.Beyond.{is_beyond}

-- what a rule makes at a place of the part
pub record Made (room level : ℕ) (t : Tree) (p : Place) (i : ℕ) (u : Tree) : Type 0 where
  pub before : Tree
  pub after : Tree
  pub stands : stands_at t p ≡ Some before
  pub rewrites : RewriteRule i before after
  pub whole : u ≡ with_at t p after
  pub small : nodes_of after ≤ nodes_of before + room
  pub shallow : level + (length p + depth_of after) ≤ 512

-- nothing
abbrev pub IsQuiet : ℕ → ℕ → Tree → Type 0
IsQuiet room level t = (p : Place) (i : ℕ) (u : Tree) → Made room level t p i u → ⊥

-- nothing at the part itself
abbrev pub IsStill : ℕ → ℕ → Tree → Type 0
IsStill room level t = (i : ℕ) (u : Tree) → Made room level t [] i u → ⊥

-- nothing at the part itself by a lower rule
abbrev pub IsStillBelow : ℕ → ℕ → Tree → ℕ → Type 0
IsStillBelow room level t n = (i : ℕ) (u : Tree) → i < n → Made room level t [] i u → ⊥

-- the first thing that is made
pub record Leads (room level : ℕ) (t u : Tree) : Type 0 where
  pub place : Place
  pub number : ℕ
  pub makes : Made room level t place number u
  pub first : (q : Place) (j : ℕ) (v : Tree) → Made room level t q j v → IsFirst place number q j

-- nothing is made in each part before the trail, and at each node that the trail leads beyond
abbrev pub IsSettled : ℕ → ℕ → Tree → List ℕ → Type 0
IsSettled calm level t [] = ⊤
IsSettled calm level t (i ∷ r) =
    ((j : ℕ) (b : Tree) → j < i → part_at t j ≡ Some b → IsQuiet calm (level + 1) b)
    × ((a : Tree) → part_at t i ≡ Some a → IsSettled calm (level + 1) a r) × (is_beyond (i ∷ r) t ≡ true → IsStill calm level t)
