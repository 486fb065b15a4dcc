-- Free positions, moved and replaced (de Bruijn).
use Rattle.std.specs.Prelude.{ℕ, ◌+◌, ◌-◌, ◌<◌, ◌^◌, max, Bool, false, ◌||◌, cond, nat_eq, nat_lt, ⊤}
use Rattle.kl_core.specs.Trees.{Tree, Var, Const, Source, Rec, Proj, Inj, Case, Make, Union, Ext, If, Let, Prim, Trees, no_trees}
use Rattle.kl_core.specs.Trees.{trees, Parts, no_parts, parts, Arms, no_arms, rest, arm}
use Rattle.kl_core.specs.Leaves.{Leaves, LeavesOfTrees, LeavesOfParts, LeavesOfArms}

-- a position at or above `from` is raised
abbrev pub raised : ℕ → ℕ → ℕ → ℕ
raised from by x = cond (nat_lt x from) x (x + by)

-- each free position at or above `from` raised by `by`
abbrev mutual
  pub shift_of : Tree → ℕ → ℕ → Tree
  shift_of (Var x) from by = Var (raised from by x)
  shift_of (Const v) from by = Const v
  shift_of (Source i) from by = Source i
  shift_of (Rec ps) from by = Rec (shift_parts ps from by)
  shift_of (Proj l a) from by = Proj l (shift_of a from by)
  shift_of (Inj l a) from by = Inj l (shift_of a from by)
  shift_of (Case a bs) from by = Case (shift_of a from by) (shift_arms bs from by)
  shift_of (Make k ts) from by = Make k (shift_trees ts from by)
  shift_of (Union a b) from by = Union (shift_of a from by) (shift_of b from by)
  shift_of (Ext k b s) from by = Ext k (shift_of b (from + 1) by) (shift_of s from by)
  shift_of (If a b c) from by = If (shift_of a from by) (shift_of b from by) (shift_of c from by)
  shift_of (Let a b) from by = Let (shift_of a from by) (shift_of b (from + 1) by)
  shift_of (Prim c ts) from by = Prim c (shift_trees ts from by)

  pub shift_trees : Trees → ℕ → ℕ → Trees
  shift_trees no_trees from by = no_trees
  shift_trees (trees t ts) from by = trees (shift_of t from by) (shift_trees ts from by)

  pub shift_parts : Parts → ℕ → ℕ → Parts
  shift_parts no_parts from by = no_parts
  shift_parts (parts l t ps) from by = parts l (shift_of t from by) (shift_parts ps from by)

  pub shift_arms : Arms → ℕ → ℕ → Arms
  shift_arms no_arms from by = no_arms
  shift_arms (rest c) from by = rest (shift_of c from by)
  shift_arms (arm l b bs) from by = arm l (shift_of b (from + 1) by) (shift_arms bs from by)

-- `with` for the position `at`, and the positions above it lowered
abbrev pub placed : ℕ → Tree → ℕ → Tree
placed at with x = cond (nat_eq x at) with (cond (nat_lt x at) (Var x) (Var (x - 1)))

abbrev mutual
  pub subst_of : Tree → ℕ → Tree → Tree
  subst_of (Var x) at with = placed at with x
  subst_of (Const v) at with = Const v
  subst_of (Source i) at with = Source i
  subst_of (Rec ps) at with = Rec (subst_parts ps at with)
  subst_of (Proj l a) at with = Proj l (subst_of a at with)
  subst_of (Inj l a) at with = Inj l (subst_of a at with)
  subst_of (Case a bs) at with = Case (subst_of a at with) (subst_arms bs at with)
  subst_of (Make k ts) at with = Make k (subst_trees ts at with)
  subst_of (Union a b) at with = Union (subst_of a at with) (subst_of b at with)
  subst_of (Ext k b s) at with = Ext k (subst_of b (at + 1) (shift_of with 0 1)) (subst_of s at with)
  subst_of (If a b c) at with = If (subst_of a at with) (subst_of b at with) (subst_of c at with)
  subst_of (Let a b) at with = Let (subst_of a at with) (subst_of b (at + 1) (shift_of with 0 1))
  subst_of (Prim c ts) at with = Prim c (subst_trees ts at with)

  pub subst_trees : Trees → ℕ → Tree → Trees
  subst_trees no_trees at with = no_trees
  subst_trees (trees t ts) at with = trees (subst_of t at with) (subst_trees ts at with)

  pub subst_parts : Parts → ℕ → Tree → Parts
  subst_parts no_parts at with = no_parts
  subst_parts (parts l t ps) at with = parts l (subst_of t at with) (subst_parts ps at with)

  pub subst_arms : Arms → ℕ → Tree → Arms
  subst_arms no_arms at with = no_arms
  subst_arms (rest c) at with = rest (subst_of c at with)
  subst_arms (arm l b bs) at with = arm l (subst_of b (at + 1) (shift_of with 0 1)) (subst_arms bs at with)

-- how many binders stand round a place, at most
abbrev mutual
  pub binders : Tree → ℕ
  binders (Var x) = 0
  binders (Const v) = 0
  binders (Source i) = 0
  binders (Rec ps) = binders_parts ps
  binders (Proj l a) = binders a
  binders (Inj l a) = binders a
  binders (Case a bs) = max (binders a) (binders_arms bs)
  binders (Make k ts) = binders_trees ts
  binders (Union a b) = max (binders a) (binders b)
  binders (Ext k b s) = max (binders b + 1) (binders s)
  binders (If a b c) = max (binders a) (max (binders b) (binders c))
  binders (Let a b) = max (binders a) (binders b + 1)
  binders (Prim c ts) = binders_trees ts

  pub binders_trees : Trees → ℕ
  binders_trees no_trees = 0
  binders_trees (trees t ts) = max (binders t) (binders_trees ts)

  pub binders_parts : Parts → ℕ
  binders_parts no_parts = 0
  binders_parts (parts l t ps) = max (binders t) (binders_parts ps)

  pub binders_arms : Arms → ℕ
  binders_arms no_arms = 0
  binders_arms (rest c) = binders c
  binders_arms (arm l b bs) = max (binders b + 1) (binders_arms bs)

-- no position passes 32 bits
abbrev pub FitsWord : ℕ → Type 0
FitsWord x = x < 2 ^ 32

abbrev pub AnySource : ℕ → Type 0
AnySource i = ⊤

abbrev pub InRange : Tree → Type 0
InRange = Leaves FitsWord AnySource

abbrev pub TreesInRange : Trees → Type 0
TreesInRange = LeavesOfTrees FitsWord AnySource

abbrev pub PartsInRange : Parts → Type 0
PartsInRange = LeavesOfParts FitsWord AnySource

abbrev pub ArmsInRange : Arms → Type 0
ArmsInRange = LeavesOfArms FitsWord AnySource

-- whether a free position stands in it
abbrev mutual
  pub occurs_in : ℕ → Tree → Bool
  occurs_in n (Var x) = nat_eq x n
  occurs_in n (Const v) = false
  occurs_in n (Source i) = false
  occurs_in n (Rec ps) = occurs_parts n ps
  occurs_in n (Proj l a) = occurs_in n a
  occurs_in n (Inj l a) = occurs_in n a
  occurs_in n (Case a bs) = occurs_in n a || occurs_arms n bs
  occurs_in n (Make k ts) = occurs_trees n ts
  occurs_in n (Union a b) = occurs_in n a || occurs_in n b
  occurs_in n (Ext k b s) = occurs_in (n + 1) b || occurs_in n s
  occurs_in n (If a b c) = occurs_in n a || (occurs_in n b || occurs_in n c)
  occurs_in n (Let a b) = occurs_in n a || occurs_in (n + 1) b
  occurs_in n (Prim c ts) = occurs_trees n ts

  pub occurs_trees : ℕ → Trees → Bool
  occurs_trees n no_trees = false
  occurs_trees n (trees t ts) = occurs_in n t || occurs_trees n ts

  pub occurs_parts : ℕ → Parts → Bool
  occurs_parts n no_parts = false
  occurs_parts n (parts l t ps) = occurs_in n t || occurs_parts n ps

  pub occurs_arms : ℕ → Arms → Bool
  occurs_arms n no_arms = false
  occurs_arms n (rest c) = occurs_in n c
  occurs_arms n (arm l b bs) = occurs_in (n + 1) b || occurs_arms n bs
