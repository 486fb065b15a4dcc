-- How large and how deep a term is, which terms do not overflow, and where items may be drawn as they come.
use Rattle.std.specs.Prelude.{ℕ, ◌+◌, max, Bool, true, false, ◌&&◌, Option, Some, None}
use Rattle.kl_value.specs.declared.Kind.{Kind}
use Rattle.kl_value.specs.declared.Kind.TheVariants as kind
use Rattle.kl_prim.specs.Table.{Row as Primitive, row_at}
use Rattle.kl_core.specs.Trees.{Tree, Var, Const, Source, Rec, Proj, Inj, Case, Make, Union, Ext, If, Let, Prim, Trees, no_trees}
use Rattle.kl_core.specs.Trees.{trees, Parts, no_parts, parts, Arms, no_arms, rest, arm}

-- a term is one more than its parts
abbrev mutual
  pub nodes_of : Tree → ℕ
  nodes_of (Var x) = 1
  nodes_of (Const v) = 1
  nodes_of (Source i) = 1
  nodes_of (Rec ps) = 1 + nodes_parts ps
  nodes_of (Proj l a) = 1 + nodes_of a
  nodes_of (Inj l a) = 1 + nodes_of a
  nodes_of (Case a bs) = 1 + (nodes_of a + nodes_arms bs)
  nodes_of (Make k ts) = 1 + nodes_trees ts
  nodes_of (Union a b) = 1 + (nodes_of a + nodes_of b)
  nodes_of (Ext k b s) = 1 + (nodes_of b + nodes_of s)
  nodes_of (If a b c) = 1 + (nodes_of a + (nodes_of b + nodes_of c))
  nodes_of (Let a b) = 1 + (nodes_of a + nodes_of b)
  nodes_of (Prim c ts) = 1 + nodes_trees ts

  pub nodes_trees : Trees → ℕ
  nodes_trees no_trees = 0
  nodes_trees (trees t ts) = nodes_of t + nodes_trees ts

  pub nodes_parts : Parts → ℕ
  nodes_parts no_parts = 0
  nodes_parts (parts l t ps) = nodes_of t + nodes_parts ps

  pub nodes_arms : Arms → ℕ
  nodes_arms no_arms = 0
  nodes_arms (rest c) = nodes_of c
  nodes_arms (arm l b bs) = nodes_of b + nodes_arms bs

-- a term is one deeper than its deepest part
abbrev mutual
  pub depth_of : Tree → ℕ
  depth_of (Var x) = 1
  depth_of (Const v) = 1
  depth_of (Source i) = 1
  depth_of (Rec ps) = 1 + depth_parts ps
  depth_of (Proj l a) = 1 + depth_of a
  depth_of (Inj l a) = 1 + depth_of a
  depth_of (Case a bs) = 1 + max (depth_of a) (depth_arms bs)
  depth_of (Make k ts) = 1 + depth_trees ts
  depth_of (Union a b) = 1 + max (depth_of a) (depth_of b)
  depth_of (Ext k b s) = 1 + max (depth_of b) (depth_of s)
  depth_of (If a b c) = 1 + max (depth_of a) (max (depth_of b) (depth_of c))
  depth_of (Let a b) = 1 + max (depth_of a) (depth_of b)
  depth_of (Prim c ts) = 1 + depth_trees ts

  pub depth_trees : Trees → ℕ
  depth_trees no_trees = 0
  depth_trees (trees t ts) = max (depth_of t) (depth_trees ts)

  pub depth_parts : Parts → ℕ
  depth_parts no_parts = 0
  depth_parts (parts l t ps) = max (depth_of t) (depth_parts ps)

  pub depth_arms : Arms → ℕ
  depth_arms no_arms = 0
  depth_arms (rest c) = depth_of c
  depth_arms (arm l b bs) = max (depth_of b) (depth_arms bs)

-- a primitive of the table that may overflow is not total
abbrev pub total_row : Option Primitive → Bool
total_row (Some p) = p.entry.total
total_row None = true

unfoldable pub total_code : ℕ → Bool
total_code code = total_row (row_at code)

-- no primitive in it may overflow
abbrev mutual
  pub total_in : Tree → Bool
  total_in (Var x) = true
  total_in (Const v) = true
  total_in (Source i) = true
  total_in (Rec ps) = total_parts ps
  total_in (Proj l a) = total_in a
  total_in (Inj l a) = total_in a
  total_in (Case a bs) = total_in a && total_arms bs
  total_in (Make k ts) = total_trees ts
  total_in (Union a b) = total_in a && total_in b
  total_in (Ext k b s) = total_in b && total_in s
  total_in (If a b c) = total_in a && (total_in b && total_in c)
  total_in (Let a b) = total_in a && total_in b
  total_in (Prim c ts) = total_code c && total_trees ts

  pub total_trees : Trees → Bool
  total_trees no_trees = true
  total_trees (trees t ts) = total_in t && total_trees ts

  pub total_parts : Parts → Bool
  total_parts no_parts = true
  total_parts (parts l t ps) = total_in t && total_parts ps

  pub total_arms : Arms → Bool
  total_arms no_arms = true
  total_arms (rest c) = total_in c
  total_arms (arm l b bs) = total_in b && total_arms bs

-- where items of a source of one kind may be drawn as they come, for a result of another: into a bag from a set only
-- where repeats are gone already, which is answered by no
abbrev pub fits_in : Kind → Kind → Bool
fits_in kind.Set kind.Set = true
fits_in kind.Set kind.Bag = false
fits_in kind.Set kind.List = false
fits_in kind.Bag kind.Set = true
fits_in kind.Bag kind.Bag = true
fits_in kind.Bag kind.List = false
fits_in kind.List kind.Set = true
fits_in kind.List kind.Bag = true
fits_in kind.List kind.List = true
