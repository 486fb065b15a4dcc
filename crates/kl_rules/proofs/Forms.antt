-- What the calls of rules 4 and 8 answer.
use Rattle.std.proofs.Common.{◌≡◌, ◌==◌, Bool, true, false, List, [], ◌∷◌, length, Option, Some, None, refl, sym, ap, subst, ◌∙◌, true≢false}
use Rattle.kl_value.specs.declared.Kind.{Kind}
use Rattle.kl_core.specs.declared.term.Term.{Term}
use Rattle.kl_core.specs.declared.term.Term.TheVariants as term
use Rattle.kl_core.specs.Trees.{Tree, Make, Ext, If, Let, Prim, no_trees, trees, view}
use Rattle.kl_core.specs.Positions.{shift_of}
use Rattle.kl_core.specs.Counts.{total_in}
use Rattle.kl_core.proofs.Views.{view_Make, view_Ext, view_Let, view_If}
use Rattle.kl_rules.specs.Rules.{empty_of, FilterPromotion, DeadLet}
use Rattle.kl_rules.specs.Rewriting.{IsRewritten, IsLowered}
use Rattle.kl_core.proofs.Lowering.{one_lowered}
use Rattle.kl_core.proofs.Totals.{total_shift}

-- ---- an empty collection

pub full_make : (t : Term) (k j : Kind) (ts : List Term) → t ≡ term.Make k ts → (length ts == 0) ≡ false → view t ≡ empty_of j → ⊥
full_make t k j [] e f g = true≢false f
full_make t k j (x ∷ xs) e f g = let h = sym (ap view e ∙ view_Make k (x ∷ xs)) ∙ g in absurd (let z : Make k (trees (view x) _) ≡ empty_of j = h in cc)

-- ---- 8

drops_of : (t a b : Term) → t ≡ term.Let a b → (u : Tree) → DeadLet (view t) u → (view b ≡ shift_of u 0 1) × (total_in (view a) ≡ true)
drops_of t a b e u h =
    let f : Let (view a) (view b) ≡ Let h.1 (shift_of h.0 0 1) = sym (ap view e ∙ view_Let a b) ∙ h.2 in
    let body : view b ≡ shift_of h.0 0 1 = cc in
    let first : view a ≡ h.1 = cc in
    (body ∙ ap (λ x. shift_of x 0 1) (sym h.3), ap total_in first ∙ h.4)

pub drops_some : (t a b r : Term) → t ≡ term.Let a b → total_in (view a) ≡ true → view b ≡ shift_of (view r) 0 1 → IsRewritten DeadLet (view t) (Some r)
drops_some t a b r e total f = (
  (view r, view a, ap view e ∙ view_Let a b ∙ ap (Let (view a)) f, refl, total),
  λ u h. one_lowered u (view r) 0 (sym ((drops_of t a b e u h).0) ∙ f),
)

-- as the call has it
pub drops_answer : (t a b x y r : Term) (o : Option Term) (bit : Bool) → t ≡ term.Let a b → x ≡ a → y ≡ b → bit ≡ total_in (view x) → bit ≡ true → IsLowered (view y) o → o ≡ Some r → IsRewritten DeadLet (view t) (Some r)
drops_answer t a b x y r o bit e f g h is_so low is =
    let total : total_in (view a) ≡ true = ap (λ z. total_in (view z)) (sym f) ∙ sym h ∙ is_so in
    let under : view y ≡ shift_of (view r) 0 1 = subst (IsLowered (view y)) is low in
    drops_some t a b r e total (ap view (sym g) ∙ under)

-- ---- 3

-- what a call of rule 3 has before it: a loop whose body is a condition
pub record Tested (t : Term) : Type 0 where
  pub kind : Kind
  pub body : Term
  pub source : Term
  pub test : Term
  pub part : Term
  pub rest : Term
  pub loop : t ≡ term.Ext kind body source
  pub choice_is : body ≡ term.If test part rest

abbrev Promoted : (t : Term) → Tested t → Tree → Type 0
Promoted t p u = (j : Kind) × (w : Tree) × (view p.rest ≡ empty_of j) × (view p.test ≡ shift_of w 0 1) × (total_in w ≡ true) × (total_in (view p.source) ≡ true) × (u ≡ If w (Ext p.kind (view p.part) (view p.source)) (empty_of j))

pub tested_view : (t : Term) (p : Tested t) → view t ≡ Ext p.kind (If (view p.test) (view p.part) (view p.rest)) (view p.source)
tested_view t p = ap view p.loop ∙ view_Ext p.kind p.body p.source ∙ ap (λ b. Ext p.kind b (view p.source)) (ap view p.choice_is ∙ view_If p.test p.part p.rest)

pub promotes_of : (t : Term) (p : Tested t) (u : Tree) → FilterPromotion (view t) u → Promoted t p u
promotes_of t p u h =
    let f : Ext p.kind (If (view p.test) (view p.part) (view p.rest)) (view p.source) ≡ Ext h.0 (If (shift_of h.3 0 1) h.2 (empty_of h.1)) h.4 = sym (tested_view t p) ∙ h.5 in
    let kind_is : p.kind ≡ h.0 = cc in
    let test_is : view p.test ≡ shift_of h.3 0 1 = cc in
    let part_is : view p.part ≡ h.2 = cc in
    let rest_is : view p.rest ≡ empty_of h.1 = cc in
    let source_is : view p.source ≡ h.4 = cc in (
      h.1,
      h.3,
      rest_is,
      test_is,
      h.7,
      ap total_in source_is ∙ h.8,
      h.6 ∙ rw (sym kind_is, sym part_is, sym source_is) refl,
    )

pub promotes_unsure : (t : Term) (p : Tested t) → total_in (view p.test) ≡ false → IsRewritten FilterPromotion (view t) None
promotes_unsure t p n u h =
    let g = promotes_of t p u h in
    let test : total_in (view p.test) ≡ true = ap total_in g.3 ∙ total_shift g.1 0 1 ∙ g.4 in
    true≢false (sym test ∙ n)

-- ---- 5

pub other_many : (t : Term) (k j : Kind) (ts : List Term) (s : Tree) → t ≡ term.Make k ts → (length ts ≡ 1 → ⊥) → view t ≡ Make j (trees s no_trees) → ⊥
other_many t k j [] s e f g = let h = sym (ap view e ∙ view_Make k []) ∙ g in absurd (let z : Make k no_trees ≡ Make j (trees s no_trees) = h in cc)
other_many t k j (x ∷ []) s e f g = f refl
other_many t k j (x ∷ y ∷ ts) s e f g = let h = sym (ap view e ∙ view_Make k (x ∷ y ∷ ts)) ∙ g in absurd (let z : Make k (trees (view x) (trees (view y) _)) ≡ Make j (trees s no_trees) = h in cc)
