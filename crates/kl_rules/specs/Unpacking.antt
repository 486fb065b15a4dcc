-- A record that is bound and used by its fields alone, and the same with a position for each field.
use Rattle.std.specs.Prelude.{ℕ, ◌+◌, ◌-◌, List, [], ◌∷◌, length, cond, nat_lt, Option, Some, None, slice_get}
use Rattle.kl_outcome.specs.Outcome.{Name}
use Rattle.kl_core.specs.Trees.{Tree, Var, Const, Source, Rec, Proj, Inj, Case, Make, Union, Ext, If, Let, Prim, Trees, no_trees}
use Rattle.kl_core.specs.Trees.{trees, Parts, no_parts, parts, Arms, no_arms, rest, arm}
use Rattle.kl_core.specs.Positions.{shift_of}

-- the labels of the fields, in their order
abbrev pub labels_at : Parts → List Name
labels_at no_parts = []
labels_at (parts l t ps) = l ∷ labels_at ps

-- a list, the last first, before another one: so positions see what is bound one after the other
abbrev pub turned_onto : {A : Type 0} → List A → List A → List A
turned_onto [] ys = ys
turned_onto (x ∷ xs) ys = turned_onto xs (x ∷ ys)

-- the fields bound one after the other round a body; so many stand outside already
abbrev pub bound_round : Parts → ℕ → Tree → Tree
bound_round no_parts n a = a
bound_round (parts l t ps) n a = Let (shift_of t 0 n) (bound_round ps (n + 1) a)

-- the field of the record at n, in place of the position of that field; the nearest field first
abbrev pub packed_var : List Name → ℕ → ℕ → Option Name → Tree
packed_var ls n x (Some l) = Proj l (Var n)
packed_var ls n x None = Var (x + 1 - length ls)

abbrev mutual
  pub packed : List Name → ℕ → Tree → Tree
  packed ls n (Var x) = cond (nat_lt x n) (Var x) (packed_var ls n x (slice_get ls (x - n)))
  packed ls n (Const v) = Const v
  packed ls n (Source i) = Source i
  packed ls n (Rec ps) = Rec (packed_parts ls n ps)
  packed ls n (Proj l a) = Proj l (packed ls n a)
  packed ls n (Inj l a) = Inj l (packed ls n a)
  packed ls n (Case a bs) = Case (packed ls n a) (packed_arms ls n bs)
  packed ls n (Make k ts) = Make k (packed_trees ls n ts)
  packed ls n (Union a b) = Union (packed ls n a) (packed ls n b)
  packed ls n (Ext k b s) = Ext k (packed ls (n + 1) b) (packed ls n s)
  packed ls n (If a b c) = If (packed ls n a) (packed ls n b) (packed ls n c)
  packed ls n (Let a b) = Let (packed ls n a) (packed ls (n + 1) b)
  packed ls n (Prim c ts) = Prim c (packed_trees ls n ts)

  pub packed_trees : List Name → ℕ → Trees → Trees
  packed_trees ls n no_trees = no_trees
  packed_trees ls n (trees t ts) = trees (packed ls n t) (packed_trees ls n ts)

  pub packed_parts : List Name → ℕ → Parts → Parts
  packed_parts ls n no_parts = no_parts
  packed_parts ls n (parts l t ps) = parts l (packed ls n t) (packed_parts ls n ps)

  pub packed_arms : List Name → ℕ → Arms → Arms
  packed_arms ls n no_arms = no_arms
  packed_arms ls n (rest c) = rest (packed ls n c)
  packed_arms ls n (arm l b bs) = arm l (packed ls (n + 1) b) (packed_arms ls n bs)
