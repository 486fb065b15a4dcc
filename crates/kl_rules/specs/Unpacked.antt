-- For private functions alone: a term that uses the record at a position by its fields alone, and the same with a position for
-- each field, by the labels in their order.
use Rattle.std.specs.Prelude.{ℕ, suc, ◌+◌, ◌-◌, ◌<◌, ◌^◌, Bool, true, false, ◌&&◌, cond, nat_eq, nat_lt, List, [], ◌∷◌, length}
use Rattle.std.specs.Cmp.Lexicographic.{pointwise}
use Rattle.kl_outcome.specs.Outcome.{Name}
use Rattle.kl_core.specs.Trees.{Tree, Var, Const, Source, Rec, Proj, Inj, Case, Make, Union, Ext, If, Let, Prim, Trees, no_trees}
use Rattle.kl_core.specs.Trees.{trees, Parts, no_parts, parts, Arms, no_arms, rest, arm}
use Rattle.kl_core.specs.Leaves.{Leaves, LeavesOfArms}
use Rattle.kl_core.specs.Positions.{AnySource}
use Rattle.kl_core.specs.Counts.{nodes_of, nodes_arms}
use Rattle.kl_rules.specs.Rewriting.{IsLowPosition}

-- where the label stands first, or how many there are
abbrev pub place_in : Name → List Name → ℕ
place_in l [] = 0
place_in l (m ∷ ls) = cond (pointwise nat_eq l m) 0 (suc (place_in l ls))

-- the position by itself
abbrev pub is_at : ℕ → Tree → Bool
is_at n (Var x) = nat_eq x n
is_at n t = false

-- the position stands only where one of these fields is taken from it
abbrev mutual
  pub alone_in : List Name → ℕ → Tree → Bool
  alone_in ls n (Var x) = cond (nat_eq x n) false true
  alone_in ls n (Const v) = true
  alone_in ls n (Source i) = true
  alone_in ls n (Rec ps) = alone_parts ls n ps
  alone_in ls n (Proj l a) = cond (is_at n a) (nat_lt (place_in l ls) (length ls)) (alone_in ls n a)
  alone_in ls n (Inj l a) = alone_in ls n a
  alone_in ls n (Case a bs) = alone_in ls n a && alone_arms ls n bs
  alone_in ls n (Make k ts) = alone_trees ls n ts
  alone_in ls n (Union a b) = alone_in ls n a && alone_in ls n b
  alone_in ls n (Ext k b s) = alone_in ls (n + 1) b && alone_in ls n s
  alone_in ls n (If a b c) = alone_in ls n a && (alone_in ls n b && alone_in ls n c)
  alone_in ls n (Let a b) = alone_in ls n a && alone_in ls (n + 1) b
  alone_in ls n (Prim c ts) = alone_trees ls n ts

  pub alone_trees : List Name → ℕ → Trees → Bool
  alone_trees ls n no_trees = true
  alone_trees ls n (trees t ts) = alone_in ls n t && alone_trees ls n ts

  pub alone_parts : List Name → ℕ → Parts → Bool
  alone_parts ls n no_parts = true
  alone_parts ls n (parts l t ps) = alone_in ls n t && alone_parts ls n ps

  pub alone_arms : List Name → ℕ → Arms → Bool
  alone_arms ls n no_arms = true
  alone_arms ls n (rest c) = alone_in ls n c
  alone_arms ls n (arm l b bs) = alone_in ls (n + 1) b && alone_arms ls n bs

-- a position for each field in its place, and the positions above it raised
abbrev mutual
  pub unpacked : List Name → ℕ → Tree → Tree
  unpacked ls n (Var x) = cond (nat_lt n x) (Var (x - 1 + length ls)) (Var x)
  unpacked ls n (Const v) = Const v
  unpacked ls n (Source i) = Source i
  unpacked ls n (Rec ps) = Rec (unpacked_parts ls n ps)
  unpacked ls n (Proj l a) = cond (is_at n a) (Var (n + (length ls - suc (place_in l ls)))) (Proj l (unpacked ls n a))
  unpacked ls n (Inj l a) = Inj l (unpacked ls n a)
  unpacked ls n (Case a bs) = Case (unpacked ls n a) (unpacked_arms ls n bs)
  unpacked ls n (Make k ts) = Make k (unpacked_trees ls n ts)
  unpacked ls n (Union a b) = Union (unpacked ls n a) (unpacked ls n b)
  unpacked ls n (Ext k b s) = Ext k (unpacked ls (n + 1) b) (unpacked ls n s)
  unpacked ls n (If a b c) = If (unpacked ls n a) (unpacked ls n b) (unpacked ls n c)
  unpacked ls n (Let a b) = Let (unpacked ls n a) (unpacked ls (n + 1) b)
  unpacked ls n (Prim c ts) = Prim c (unpacked_trees ls n ts)

  pub unpacked_trees : List Name → ℕ → Trees → Trees
  unpacked_trees ls n no_trees = no_trees
  unpacked_trees ls n (trees t ts) = trees (unpacked ls n t) (unpacked_trees ls n ts)

  pub unpacked_parts : List Name → ℕ → Parts → Parts
  unpacked_parts ls n no_parts = no_parts
  unpacked_parts ls n (parts l t ps) = parts l (unpacked ls n t) (unpacked_parts ls n ps)

  pub unpacked_arms : List Name → ℕ → Arms → Arms
  unpacked_arms ls n no_arms = no_arms
  unpacked_arms ls n (rest c) = rest (unpacked ls n c)
  unpacked_arms ls n (arm l b bs) = arm l (unpacked ls (n + 1) b) (unpacked_arms ls n bs)

-- so small, and under so few binders, that no position passes 32 bits
abbrev pub HasRoom : Tree → ℕ → Type 0
HasRoom t at = Leaves IsLowPosition AnySource t × (at + nodes_of t < 2 ^ 31)

abbrev pub HasRoomArms : Arms → ℕ → Type 0
HasRoomArms bs at = LeavesOfArms IsLowPosition AnySource bs × (at + nodes_arms bs < 2 ^ 31)
