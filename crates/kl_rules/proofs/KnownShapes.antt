-- What the calls of rules 13 and 14 answer.
use Rattle.std.proofs.Common.{◌≡◌, true, List, Option, Some, None, sym, ap, ap₂, ◌∙◌}
use Rattle.std.specs.Option.{option_map}
use Rattle.std.proofs.lemmas.Option.{same_Some}
use Rattle.kl_base.specs.Fields.{field}
use Rattle.kl_outcome.specs.Outcome.{Name}
use Rattle.kl_core.specs.declared.term.Term.{Term}
use Rattle.kl_core.specs.declared.term.Term.TheVariants as term
use Rattle.kl_core.specs.Trees.{Tree, Rec, Proj, Inj, Case, Let, view, parts_view}
use Rattle.kl_core.specs.Counts.{total_in}
use Rattle.kl_core.proofs.Views.{view_Rec, view_Proj, view_Inj, view_Case, arms_view}
use Rattle.kl_rules.specs.Rules.{KnownField, KnownVariant, part_of, branch_of}
use Rattle.kl_rules.specs.Rewriting.{IsRewritten}
use Rattle.kl_rules.proofs.Walks.{part_found}

-- ---- 13

field_view : (t a b : Term) (l : Name) (ps : List (Name × Term)) → t ≡ term.Proj l a → b ≡ a → b ≡ term.Rec ps → view t ≡ Proj l (Rec (parts_view ps))
field_view t a b l ps e f g = ap view e ∙ view_Proj l a ∙ ap (Proj l) (ap view (sym f ∙ g) ∙ view_Rec ps)

found_parts : (t : Tree) (l : Name) (ps : List (Name × Term)) (u : Tree) → t ≡ Proj l (Rec (parts_view ps)) → KnownField t u → option_map view (field l ps) ≡ Some u
found_parts t l ps u e h =
    let f : Proj l (Rec (parts_view ps)) ≡ Proj h.0 (Rec h.1) = sym e ∙ h.2 in
    let label : l ≡ h.0 = cc in
    let fields : parts_view ps ≡ h.1 = cc in
    sym (part_found l ps) ∙ ap₂ part_of label fields ∙ h.3

pub field_some : (t a b c x r : Term) (l : Name) (ps : List (Name × Term)) (f : Option Term) → t ≡ term.Proj l a → b ≡ a → b ≡ term.Rec ps → c ≡ a → total_in (view c) ≡ true
    → f ≡ field l ps → f ≡ Some x → r ≡ x → IsRewritten KnownField (view t) (Some r)
field_some t a b c x r l ps f e g h i total found is same =
    let whole = field_view t a b l ps e g h in
    let at : option_map view (field l ps) ≡ Some (view r) = ap (option_map view) (sym found ∙ is) ∙ ap (λ y. Some (view y)) (sym same) in (
      (l, parts_view ps, whole, part_found l ps ∙ at, sym (ap total_in (ap view (i ∙ sym g ∙ h) ∙ view_Rec ps)) ∙ total),
      λ u k. same_Some u (view r) (sym (found_parts (view t) l ps u whole k) ∙ at),
    )

pub field_none : (t a b : Term) (l : Name) (ps : List (Name × Term)) (f : Option Term) → t ≡ term.Proj l a → b ≡ a → b ≡ term.Rec ps → f ≡ field l ps → f ≡ None
    → IsRewritten KnownField (view t) None
field_none t a b l ps f e g h found is u k =
    let at : option_map view (field l ps) ≡ None = ap (option_map view) (sym found ∙ is) in
    absurd (let d = sym at ∙ found_parts (view t) l ps u (field_view t a b l ps e g h) k in cc)

-- ---- 14

case_view : (t a b s : Term) (l : Name) (ps : List (Name × Term)) (c : Option Term) → t ≡ term.Case a ps c → b ≡ a → b ≡ term.Inj l s → view t ≡ Case (Inj l (view s)) (arms_view ps c)
case_view t a b s l ps c e f g = ap view e ∙ view_Case a ps c ∙ ap (λ x. Case x (arms_view ps c)) (ap view (sym f ∙ g) ∙ view_Inj l s)

pub branch_taken : (t a b s d f v r : Term) (l : Name) (ps : List (Name × Term)) (c o : Option Term) → t ≡ term.Case a ps c → b ≡ a → b ≡ term.Inj l s → d ≡ s → f ≡ d
    → option_map view o ≡ branch_of l (arms_view ps c) → o ≡ Some v → view r ≡ Let (view f) (view v) → IsRewritten KnownVariant (view t) (Some r)
branch_taken t a b s d m v r l ps c o e f g h i found is made =
    let whole = case_view t a b s l ps c e f g in
    let at : branch_of l (arms_view ps c) ≡ Some (view v) = sym found ∙ ap (option_map view) is in
    let result : view r ≡ Let (view s) (view v) = made ∙ ap (λ x. Let (view x) (view v)) (i ∙ h) in (
      (l, arms_view ps c, view v, view s, whole, at, result),
      λ u k. (
          let j : Case (Inj l (view s)) (arms_view ps c) ≡ Case (Inj k.0 k.3) k.1 = sym whole ∙ k.4 in
          let label : l ≡ k.0 = cc in
          let arms : arms_view ps c ≡ k.1 = cc in
          let carried : view s ≡ k.3 = cc in
          let one : view v ≡ k.2 = same_Some (view v) k.2 (sym at ∙ ap₂ branch_of label arms ∙ k.5) in
          k.6 ∙ sym (ap₂ Let carried one) ∙ sym result),
    )
