-- Terms as contracts see them: lists are lists, and boxes are nothing.
use Rattle.std.specs.Prelude.{ℕ, List, [], ◌∷◌, map, Option, Some, None}
use Rattle.kl_value.specs.declared.Kind.{Kind}
use Rattle.kl_value.specs.declared.Value.{Value}
use Rattle.kl_outcome.specs.Outcome.{Name}
use Rattle.kl_core.specs.declared.term.Term.{Term, Term-F, fold-Term}

mutual
  pub data Tree : Type 0 where
    Var : ℕ → Tree
    Const : Value → Tree
    Source : ℕ → Tree
    Rec : Parts → Tree
    Proj : Name → Tree → Tree
    Inj : Name → Tree → Tree
    Case : Tree → Arms → Tree
    Make : Kind → Trees → Tree
    Union : Tree → Tree → Tree
    Ext : Kind → Tree → Tree → Tree
    If : Tree → Tree → Tree → Tree
    Let : Tree → Tree → Tree
    Prim : ℕ → Trees → Tree

  pub data Trees : Type 0 where
    no_trees : Trees
    trees : Tree → Trees → Trees

  pub data Parts : Type 0 where
    no_parts : Parts
    parts : Name → Tree → Parts → Parts

  -- branches, and what stands behind `otherwise` last
  pub data Arms : Type 0 where
    no_arms : Arms
    rest : Tree → Arms
    arm : Name → Tree → Arms → Arms

abbrev pub trees_of : List Tree → Trees
trees_of [] = no_trees
trees_of (t ∷ ts) = trees t (trees_of ts)

abbrev pub parts_of : List (Name × Tree) → Parts
parts_of [] = no_parts
parts_of (p ∷ ps) = parts p.0 p.1 (parts_of ps)

abbrev pub rest_of : Option Tree → Arms
rest_of (Some t) = rest t
rest_of None = no_arms

abbrev pub arms_of : List (Name × Tree) → Arms → Arms
arms_of [] last = last
arms_of (p ∷ ps) last = arm p.0 p.1 (arms_of ps last)

abbrev pub layer : Term-F Tree → Tree
layer (Term-F.Var x) = Var x
layer (Term-F.Const v) = Const v
layer (Term-F.Source i) = Source i
layer (Term-F.Rec ps) = Rec (parts_of ps)
layer (Term-F.Proj l a) = Proj l a
layer (Term-F.Inj l a) = Inj l a
layer (Term-F.Case a bs c) = Case a (arms_of bs (rest_of c))
layer (Term-F.Make k ts) = Make k (trees_of ts)
layer (Term-F.Union a b) = Union a b
layer (Term-F.Ext k b s) = Ext k b s
layer (Term-F.If a b c) = If a b c
layer (Term-F.Let a b) = Let a b
layer (Term-F.Prim c ts) = Prim c (trees_of ts)

abbrev pub view : Term → Tree
view = fold-Term Tree layer

abbrev pub view_part : Name × Term → Name × Tree
view_part p = (p.0, view p.1)

abbrev pub trees_view : List Term → Trees
trees_view ts = trees_of (map view ts)

abbrev pub parts_view : List (Name × Term) → Parts
parts_view ps = parts_of (map view_part ps)
