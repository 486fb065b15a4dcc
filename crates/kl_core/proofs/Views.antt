-- The trees of terms, and what a map over trees makes of them.
use Rattle.std.proofs.Common.{◌≡◌, ℕ, List, [], ◌∷◌, map, Option, refl, sym, ap, ◌∙◌, rules}
use Rattle.std.specs.Option.{option_map}
use mathlib.Core.Path.{ap₂}
use Rattle.kl_value.specs.declared.Kind.{Kind}
use Rattle.kl_outcome.specs.Outcome.{Name}
use Rattle.kl_core.specs.declared.term.Term.{Term, the_lemmas}
use Rattle.kl_core.specs.declared.term.Term.TheVariants as term
use Rattle.kl_core.specs.Trees.{Tree, Var, Source, Rec, Proj, Inj, Case, Make, Union, Ext, If, Let, Prim, Trees, no_trees, trees, Parts, no_parts, parts, Arms, arm, trees_of, parts_of, arms_of, rest_of, view, view_part, trees_view, parts_view}

pub view_Var : (x : ℕ) → view (term.Var x) ≡ Var x
view_Var x = search (rules, the_lemmas)

pub view_Source : (i : ℕ) → view (term.Source i) ≡ Source i
view_Source i = search (rules, the_lemmas)

pub view_Rec : (ps : List (Name × Term)) → view (term.Rec ps) ≡ Rec (parts_view ps)
view_Rec ps = search (rules, the_lemmas)

pub view_Proj : (l : Name) (a : Term) → view (term.Proj l a) ≡ Proj l (view a)
view_Proj l a = search (rules, the_lemmas)

pub view_Inj : (l : Name) (a : Term) → view (term.Inj l a) ≡ Inj l (view a)
view_Inj l a = search (rules, the_lemmas)

pub view_Make : (k : Kind) (ts : List Term) → view (term.Make k ts) ≡ Make k (trees_view ts)
view_Make k ts = search (rules, the_lemmas)

pub view_Union : (a b : Term) → view (term.Union a b) ≡ Union (view a) (view b)
view_Union a b = search (rules, the_lemmas)

pub view_Ext : (k : Kind) (b s : Term) → view (term.Ext k b s) ≡ Ext k (view b) (view s)
view_Ext k b s = search (rules, the_lemmas)

pub view_If : (a b c : Term) → view (term.If a b c) ≡ If (view a) (view b) (view c)
view_If a b c = search (rules, the_lemmas)

pub view_Let : (a b : Term) → view (term.Let a b) ≡ Let (view a) (view b)
view_Let a b = search (rules, the_lemmas)

pub view_Prim : (c : ℕ) (ts : List Term) → view (term.Prim c ts) ≡ Prim c (trees_view ts)
view_Prim c ts = search (rules, the_lemmas)

-- the branches of a case, and what stands behind `otherwise`
abbrev pub view_option : Option Term → Option Tree
view_option = option_map view

abbrev pub arms_view : List (Name × Term) → Option Term → Arms
arms_view ps c = arms_of (map view_part ps) (rest_of (view_option c))

pub view_Case : (a : Term) (ps : List (Name × Term)) (c : Option Term) → view (term.Case a ps c) ≡ Case (view a) (arms_view ps c)
view_Case a ps c = search (rules, the_lemmas)

-- a map over trees, on lists
module _ (F : Tree → Tree) (G : Trees → Trees) (none : G no_trees ≡ no_trees) (more : (t : Tree) (ts : Trees) → G (trees t ts) ≡ trees (F t) (G ts)) where
  pub over_trees : (ts : List Term) → G (trees_view ts) ≡ trees_of (map (λ t. F (view t)) ts)
  over_trees [] = none
  over_trees (t ∷ ts) = more (view t) (trees_view ts) ∙ ap (trees (F (view t))) (over_trees ts)

  -- what is mapped, from the list that a loop made
  pub mapped_trees : (ts us vs : List Term) → vs ≡ ts → map view us ≡ map (λ t. F (view t)) vs → trees_view us ≡ G (trees_view ts)
  mapped_trees ts us vs f h = ap trees_of (h ∙ ap (map (λ t. F (view t))) f) ∙ sym (over_trees ts)

module _ (F : Tree → Tree) (G : Parts → Parts) (none : G no_parts ≡ no_parts) (more : (l : Name) (t : Tree) (ps : Parts) → G (parts l t ps) ≡ parts l (F t) (G ps)) where
  pub over_parts : (ps : List (Name × Term)) → G (parts_view ps) ≡ parts_of (map (λ p. (p.0, F (view p.1))) ps)
  over_parts [] = none
  over_parts (p ∷ ps) = more p.0 (view p.1) (parts_view ps) ∙ ap (parts p.0 (F (view p.1))) (over_parts ps)

  pub mapped_parts : (ps qs rs : List (Name × Term)) → rs ≡ ps → map view_part qs ≡ map (λ p. (p.0, F (view p.1))) rs → parts_view qs ≡ G (parts_view ps)
  mapped_parts ps qs rs f h = ap parts_of (h ∙ ap (map (λ p. (p.0, F (view p.1)))) f) ∙ sym (over_parts ps)

module _ (F : Tree → Tree) (G : Arms → Arms) (more : (l : Name) (t : Tree) (bs : Arms) → G (arm l t bs) ≡ arm l (F t) (G bs)) where
  pub over_arms : (ps : List (Name × Term)) (last : Arms) → G (arms_of (map view_part ps) last) ≡ arms_of (map (λ p. (p.0, F (view p.1))) ps) (G last)
  over_arms [] last = refl
  over_arms (p ∷ ps) last = more p.0 (view p.1) (arms_of (map view_part ps) last) ∙ ap (arm p.0 (F (view p.1))) (over_arms ps last)

  pub mapped_arms : (ps qs rs : List (Name × Term)) (last end : Arms) → rs ≡ ps → map view_part qs ≡ map (λ p. (p.0, F (view p.1))) rs → end ≡ G last
      → arms_of (map view_part qs) end ≡ G (arms_of (map view_part ps) last)
  mapped_arms ps qs rs last end f h e = ap₂ arms_of (h ∙ ap (map (λ p. (p.0, F (view p.1)))) f) e ∙ sym (over_arms ps last)
