-- The nearest free position of a term.
use Rattle.std.specs.Prelude.{◌≡◌, ℕ, ◌+◌, ◌-◌, ◌≤◌, min, true, cond, nat_lt, Option, Some, None}
use Rattle.kl_core.specs.Trees.{Tree, Var, Const, Source, Rec, Proj, Inj, Case, Make, Union, Ext, If, Let, Prim, Trees, no_trees}
use Rattle.kl_core.specs.Trees.{trees, Parts, no_parts, parts, Arms, no_arms, rest, arm}
use Rattle.kl_core.specs.Positions.{occurs_in}

-- it stands in the term, and none that does is below it; none where none stands there
abbrev pub IsNearest : Tree → Option ℕ → Type 0
IsNearest t (Some n) = (occurs_in n t ≡ true) × ((m : ℕ) → occurs_in m t ≡ true → n ≤ m)
IsNearest t None = (m : ℕ) → occurs_in m t ≡ true → ⊥

-- For private functions alone: the same as a number, found by a walk. It is the nearest at or above `n`, less `n`.
abbrev pub least : Option ℕ → Option ℕ → Option ℕ
least None o = o
least (Some x) None = Some x
least (Some x) (Some y) = Some (min x y)

abbrev mutual
  pub nearest_in : ℕ → Tree → Option ℕ
  nearest_in n (Var x) = cond (nat_lt x n) None (Some (x - n))
  nearest_in n (Const v) = None
  nearest_in n (Source i) = None
  nearest_in n (Rec ps) = nearest_parts n ps
  nearest_in n (Proj l a) = nearest_in n a
  nearest_in n (Inj l a) = nearest_in n a
  nearest_in n (Case a bs) = least (nearest_in n a) (nearest_arms n bs)
  nearest_in n (Make k ts) = nearest_trees n ts
  nearest_in n (Union a b) = least (nearest_in n a) (nearest_in n b)
  nearest_in n (Ext k b s) = least (nearest_in (n + 1) b) (nearest_in n s)
  nearest_in n (If a b c) = least (nearest_in n a) (least (nearest_in n b) (nearest_in n c))
  nearest_in n (Let a b) = least (nearest_in n a) (nearest_in (n + 1) b)
  nearest_in n (Prim c ts) = nearest_trees n ts

  pub nearest_trees : ℕ → Trees → Option ℕ
  nearest_trees n no_trees = None
  nearest_trees n (trees t ts) = least (nearest_in n t) (nearest_trees n ts)

  pub nearest_parts : ℕ → Parts → Option ℕ
  nearest_parts n no_parts = None
  nearest_parts n (parts l t ps) = least (nearest_in n t) (nearest_parts n ps)

  pub nearest_arms : ℕ → Arms → Option ℕ
  nearest_arms n no_arms = None
  nearest_arms n (rest c) = nearest_in n c
  nearest_arms n (arm l b bs) = least (nearest_in (n + 1) b) (nearest_arms n bs)
