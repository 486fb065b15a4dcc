-- A term over rows as one over the row that shows them, form by form.
use Rattle.std.proofs.Common.{◌≡◌, ℕ, ◌+◌, ◌<◌, List, [], ◌∷◌, map, length, get_or, slice_get, Option, Some, refl, sym, ap, ◌∙◌}
use Rattle.std.proofs.lemmas.Option.{slice_get_read}
use mathlib.Core.Path.{ap₂}
use Rattle.kl_value.specs.declared.Kind.{Kind}
use Rattle.kl_outcome.specs.Outcome.{Name}
use Rattle.kl_core.specs.declared.term.Term.{Term}
use Rattle.kl_core.specs.declared.term.Term.TheVariants as term
use Rattle.kl_core.specs.Trees.{Var, Rec, Proj, Case, Make, Prim, rest_of, parts_of, view, view_part}
use Rattle.kl_core.proofs.Views.{view_Rec, view_Make, view_Prim, view_Case, view_option, mapped_trees, mapped_parts, mapped_arms}
use Rattle.kl_sqltext.specs.Grammar.{SqlColumn}
use Rattle.kl_ship.specs.Joined.{label_in, row_parts}
use Rattle.kl_ship.specs.Packed.{list_or_none, columns_listed, over_rows, trees_over_rows, parts_over_rows, arms_over_rows}

-- ---- what is made of the parts

row_listed : (f : Name → Name) (at : ℕ) (ls : List Name) → parts_of (map (λ l. (l, Proj (f l) (Var at))) ls) ≡ row_parts f at ls
row_listed f at [] = refl
row_listed f at (l ∷ ls) = rw (row_listed f at ls) refl

-- a whole row, from the fields that a loop made
pub row_Rec : (f : Name → Name) (at : ℕ) (ls : List Name) (ps : List (Name × Term)) → map view_part ps ≡ map (λ l. (l, Proj (f l) (Var at))) ls → view (term.Rec ps) ≡ Rec (row_parts f at ls)
row_Rec f at ls ps h = view_Rec ps ∙ ap Rec (ap parts_of h ∙ row_listed f at ls)

-- the whole row of a table
pub whole_Rec : (cs ds : List SqlColumn) (all : List (List Name)) (i at : ℕ) (row ls : List Name) (ps : List (Name × Term)) → i < length all → row ≡ get_or all i row → ls ≡ row → ds ≡ cs
    → map view_part ps ≡ map (λ l. (l, Proj (label_in ds i l) (Var at))) ls → view (term.Rec ps) ≡ Rec (row_parts (label_in cs i) at (columns_listed all i))
whole_Rec cs ds all i at row ls ps lt g e d h =
    let s : slice_get all i ≡ Some row = slice_get_read all (length all) i row refl lt g in
    row_Rec (label_in ds i) at ls ps h ∙ ap₂ (λ c r. Rec (row_parts (label_in c i) at r)) d (e ∙ sym (ap list_or_none s))

module _ (cs : List SqlColumn) (all : List (List Name)) where
  pub over_Make : (t : Term) (k : Kind) (ts us vs : List Term) (at : ℕ) → t ≡ term.Make k ts → vs ≡ ts → map view us ≡ map (λ t. over_rows cs all at (view t)) vs → view (term.Make k us) ≡ over_rows cs all at (view t)
  over_Make t k ts us vs at e f h = rw (e, view_Make, view_Make) (ap (Make k) (mapped_trees (over_rows cs all at) (trees_over_rows cs all at) refl (λ t ts. refl) ts us vs f h))

  pub over_Prim : (t : Term) (c : ℕ) (ts us vs : List Term) (at : ℕ) → t ≡ term.Prim c ts → vs ≡ ts → map view us ≡ map (λ t. over_rows cs all at (view t)) vs → view (term.Prim c us) ≡ over_rows cs all at (view t)
  over_Prim t c ts us vs at e f h = rw (e, view_Prim, view_Prim) (ap (Prim c) (mapped_trees (over_rows cs all at) (trees_over_rows cs all at) refl (λ t ts. refl) ts us vs f h))

  pub over_Rec : (t : Term) (ps qs rs : List (Name × Term)) (at : ℕ) → t ≡ term.Rec ps → rs ≡ ps → map view_part qs ≡ map (λ p. (p.0, over_rows cs all at (view p.1))) rs → view (term.Rec qs) ≡ over_rows cs all at (view t)
  over_Rec t ps qs rs at e f h = rw (e, view_Rec, view_Rec) (ap Rec (mapped_parts (over_rows cs all at) (parts_over_rows cs all at) refl (λ l t ps. refl) ps qs rs f h))

  pub over_Case : (t a b x : Term) (ps qs rs : List (Name × Term)) (c d : Option Term) (at : ℕ) → t ≡ term.Case a ps c → b ≡ a → view x ≡ over_rows cs all at (view b) → rs ≡ ps
      → map view_part qs ≡ map (λ p. (p.0, over_rows cs all (at + 1) (view p.1))) rs → rest_of (view_option d) ≡ arms_over_rows cs all at (rest_of (view_option c)) → view (term.Case x qs d) ≡ over_rows cs all at (view t)
  over_Case t a b x ps qs rs c d at e j g f h i =
      view_Case x qs d
      ∙ ap₂ Case (g ∙ ap (λ t. over_rows cs all at (view t)) j) (mapped_arms (over_rows cs all (at + 1)) (arms_over_rows cs all at) (λ l t bs. refl) ps qs rs (rest_of (view_option c)) (rest_of (view_option d)) f h i)
      ∙ sym (ap (over_rows cs all at) (ap view e ∙ view_Case a ps c))
