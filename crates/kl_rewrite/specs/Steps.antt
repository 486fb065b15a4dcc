-- Steps of rewriting.
use Rattle.std.specs.Prelude.{◌≡◌, ◌⊎◌, ℕ, zero, suc, ◌≤◌, false, Some}
use Rattle.kl_core.specs.Trees.{Tree}
use Rattle.kl_core.specs.Counts.{nodes_of, depth_of}
use Rattle.kl_core.specs.Positions.{occurs_in}
use Rattle.kl_rules.specs.Rules.{RewriteRule}
use Rattle.kl_rewrite.specs.Places.{Place, stands_at, with_at, IsBefore}

-- no free position
abbrev pub IsClosed : Tree → Type 0
IsClosed t = (n : ℕ) → occurs_in n t ≡ false

-- the limits of a term that is rewritten
abbrev pub IsWithin : Tree → Type 0
IsWithin t = (nodes_of t ≤ 16384) × (depth_of t ≤ 512)

-- What a rule makes of the term at a place, where the whole keeps within the limits.
pub record Makes (t : Tree) (p : Place) (i : ℕ) (u : Tree) : Type 0 where
  pub before : Tree
  pub after : Tree
  pub stands : stands_at t p ≡ Some before
  pub rewrites : RewriteRule i before after
  pub whole : u ≡ with_at t p after
  pub within : IsWithin u

-- the earlier place, or there the lower number
abbrev pub IsFirst : Place → ℕ → Place → ℕ → Type 0
IsFirst p i q j = IsBefore p q ⊎ ((p ≡ q) × (i ≤ j))

-- A step is made at the first place at which some rule makes something, by the lowest rule that does.
pub record Step (t u : Tree) : Type 0 where
  pub place : Place
  pub number : ℕ
  pub makes : Makes t place number u
  pub first : (q : Place) (j : ℕ) (v : Tree) → Makes t q j v → IsFirst place number q j

-- no rule makes anything
abbrev pub IsNormal : Tree → Type 0
IsNormal t = (p : Place) (i : ℕ) (u : Tree) → Makes t p i u → ⊥

-- so many steps lead from one term to another
abbrev pub Steps : ℕ → Tree → Tree → Type 0
Steps zero t u = t ≡ u
Steps (suc n) t u = (v : Tree) × Steps n t v × Step v u
