-- Constants of each shape.
use Rattle.std.proofs.Common.{◌≡◌, ◌↔◌, ℕ, ℤ, Bool, true, false, IsTrue, List, length, map, refl, sym, ap, ◌∙◌, subst}
use Rattle.std.specs.List.{All, AllByRecursion}
use Rattle.std.specs.List.Sorted.{IsStrictlySortedBy}
use Rattle.kl_base.specs.Fields.{LabelsRise}
use Rattle.kl_base.specs.Sorted.{IsRising}
use Rattle.kl_value.specs.IsCanonical.{IsCanonical}
use Rattle.kl_value.specs.Order.{compare}
use Rattle.kl_value.specs.Views.{collection}
use Rattle.kl_value.specs.declared.Kind.{Kind}
use Rattle.kl_value.specs.declared.Kind.TheVariants as kind
use Rattle.kl_value.specs.declared.Value.{Value}
use Rattle.kl_value.specs.declared.Value.TheVariants as value
use Rattle.kl_value.proofs.IsCanonicalLemmas.{set_made, bag_made, list_made, set_strict, bag_rising}
use Rattle.kl_type.specs.Ground.{bool, int, str}
use Rattle.kl_outcome.specs.Typed.{Inhabits}
use Rattle.kl_rows.specs.declared.cell.Cell.{Cell}
use Rattle.kl_rows.specs.Lists.{Fields}
use Rattle.kl_rows.specs.Places.{IsFine, IsType}
use Rattle.kl_forms.specs.Checks.{Checks, OpensItem, LeavesNone, OpensMany}
use Rattle.kl_forms.specs.Forms.{ItemsOf, VariantOf, IsOfType, IsRecord}
use Rattle.kl_forms.specs.Constants.{ValueFields, TakesItems, TakesFields, EachHas, numbered}
use Rattle.kl_forms.proofs.Steps.{never, told}
use Rattle.kl_forms.proofs.Opening.{opened, refused}
use Rattle.kl_forms.proofs.Many.{same_all}
use Rattle.kl_forms.proofs.Shapes.{and_then, and_not, items_ground}
use Rattle.kl_forms.proofs.RowShapes.{record_checks}
use Rattle.kl_forms.proofs.Typings.{bool_type, bool_has, int_type, int_has, text_type, text_has, items_type, items_has, variant_type, variant_has, record_type, record_has, record_rises}

module _ (old new : List Cell) (want : ℕ) (ans : Bool) (v : Value) where
  pub bool_value : (b : Bool) → v ≡ value.Bool b → Checks ans old new (λ s. s.types want ≡ bool) → Checks ans old new (IsOfType v want)
  bool_value b e c = told ans old new _ _ (λ s h d. bool_type (s.types want) v b e d) (λ s h d. bool_has (s.types want) v b e d) c

  pub int_value : (n : ℤ) → v ≡ value.Int n → Checks ans old new (λ s. s.types want ≡ int) → Checks ans old new (IsOfType v want)
  int_value n e c = told ans old new _ _ (λ s h d. int_type (s.types want) v n e d) (λ s h d. int_has (s.types want) v n e d) c

  pub text_value : (n : List ℕ) → v ≡ value.Text n → Checks ans old new (λ s. s.types want ≡ str) → Checks ans old new (IsOfType v want)
  text_value n e c = told ans old new _ _ (λ s h d. text_type (s.types want) v n e d) (λ s h d. text_has (s.types want) v n e d) c

  items_value : (k : Kind) (vs ws : List Value) → v ≡ collection k vs → ws ≡ vs → (AllByRecursion IsCanonical ws → IsCanonical (collection k ws)) → Checks ans old new (TakesItems k ws want) → Checks ans old new (IsOfType v want)
  items_value k vs ws e same up c =
      let f : v ≡ collection k ws = e ∙ ap (collection k) (sym same) in
      told ans old new _ _ (λ s h d. items_type k (s.types want) v ws f d) (λ s h d. items_has k (s.types want) v ws f up d.0 d.1 d.2) c

  pub set_value : (vs ws : List Value) → v ≡ value.Set vs → ws ≡ vs → IsStrictlySortedBy compare ws → Checks ans old new (TakesItems kind.Set ws want) → Checks ans old new (IsOfType v want)
  set_value vs ws e same up c = items_value kind.Set vs ws e same (λ all. set_made ws all up) c

  pub bag_value : (vs ws : List Value) → v ≡ value.Bag vs → ws ≡ vs → IsRising compare ws → Checks ans old new (TakesItems kind.Bag ws want) → Checks ans old new (IsOfType v want)
  bag_value vs ws e same up c = items_value kind.Bag vs ws e same (λ all. bag_made ws all up) c

  pub list_value : (vs ws : List Value) → v ≡ value.List vs → ws ≡ vs → Checks ans old new (TakesItems kind.List ws want) → Checks ans old new (IsOfType v want)
  list_value vs ws e same c = items_value kind.List vs ws e same (λ all. list_made ws all) c

  pub record_value : (fs gs : ValueFields) → v ≡ value.Rec fs → gs ≡ fs → LabelsRise gs → Checks ans old new (TakesFields gs want) → Checks ans old new (IsOfType v want)
  record_value fs gs e same up c =
      let f : v ≡ value.Rec gs = e ∙ ap (λ x. value.Rec x) (sym same) in
      told ans old new _ _ (λ s h d. record_type (s.types want) v gs f d) (λ s h d. record_has (s.types want) v gs f up d.0 d.1 d.2) c

-- what is not canonical
refutes : (r : Bool) (A : Type 0) → IsTrue r ↔ A → r ≡ false → A → ⊥
refutes r A h e a = let z : r ≡ true = h.1 a in let w : ⊥ = cc in w

module _ (old : List Cell) (want : ℕ) (v : Value) (fine : IsFine old) where
  pub no_set : (r : Bool) (vs ws : List Value) → v ≡ value.Set vs → ws ≡ vs → IsTrue r ↔ IsStrictlySortedBy compare ws → r ≡ false → Checks false old old (IsOfType v want)
  no_set r vs ws e same h no_way = never old _ fine (λ s k d. refutes r _ h no_way (subst (IsStrictlySortedBy compare) (sym same) (set_strict vs (subst IsCanonical e d.1))))

  pub no_bag : (r : Bool) (vs ws : List Value) → v ≡ value.Bag vs → ws ≡ vs → IsTrue r ↔ IsRising compare ws → r ≡ false → Checks false old old (IsOfType v want)
  no_bag r vs ws e same h no_way = never old _ fine (λ s k d. refutes r _ h no_way (subst (IsRising compare) (sym same) (bag_rising vs (subst IsCanonical e d.1))))

  pub no_fields : (r : Bool) (fs gs : ValueFields) → v ≡ value.Rec fs → gs ≡ fs → IsTrue r ↔ LabelsRise gs → r ≡ false → Checks false old old (IsOfType v want)
  no_fields r fs gs e same h no_way = never old _ fine (λ s k d. refutes r _ h no_way (subst LabelsRise (sym same) (record_rises (s.types want) v fs e d)))

-- variants
module _ (old mid : List Cell) (want : ℕ) (v : Value) (l : List ℕ) (w x : Value) (e : v ≡ value.Inj l w) where
  pub variant_value : (new : List Cell) (item : ℕ) (ans : Bool) → x ≡ w → OpensItem old mid item (VariantOf l want) → Checks ans mid new (IsOfType x item) → Checks ans old new (IsOfType v want)
  variant_value new item ans same o c =
      let f : v ≡ value.Inj l x = e ∙ ap (value.Inj l) (sym same) in
      told ans old new _ _
      (λ s h d. variant_type (s.types want) v l x f (s.types_ground want) d)
      (λ s h d. variant_has (s.types want) v l x f d.0 d.2.0 d.2.1 d.2.2 d.3)
      (opened old mid new item (VariantOf l want) ans o (λ t s. Inhabits t x) (λ t s u a d. d) c)

  pub no_variant_value : LeavesNone old mid (VariantOf l want) → Checks false old mid (IsOfType v want)
  no_variant_value r = refused old mid (VariantOf l want) (IsOfType v want) r (λ s d. let k = variant_type (s.types want) v l w e (s.types_ground want) d in (k.0, k.1, k.2))

-- collections
module _ (old mid : List Cell) (want : ℕ) (k : Kind) (vs : List Value) where
  pub takes_items : (new : List Cell) (item : ℕ) (ans : Bool) → OpensItem old mid item (ItemsOf k want) → Checks ans mid new (λ s. All (Inhabits (s.types item)) vs) → Checks ans old new (TakesItems k vs want)
  takes_items new item ans o c = told ans old new _ _
      (λ s h d. (d.0, items_ground s want k d.0 d.1, d.1, d.2))
      (λ s h d. (d.0, d.2, d.3))
      (opened old mid new item (ItemsOf k want) ans o (λ t s. All (Inhabits t) vs) (λ t s u a d. d) c)

  pub takes_none : LeavesNone old mid (ItemsOf k want) → Checks false old mid (TakesItems k vs want)
  takes_none r = refused old mid (ItemsOf k want) (TakesItems k vs want) r (λ s d. (d.0, items_ground s want k d.0 d.1, d.1))

-- records
module _ (old mid made : List Cell) (fs : ValueFields) (is : List ℕ) (want : ℕ) (one : Bool) (lab : Fields) (up : LabelsRise fs) (there : IsType old want) (many : OpensMany old mid is (length fs)) (is_lab : lab ≡ numbered fs is) (check : Checks one mid made (IsRecord false lab want)) where
  pub takes_fields : (new : List Cell) (ans : Bool) (js : List ℕ) → js ≡ is → one ≡ true → Checks ans made new (λ s. EachHas (map s.types js) fs) → Checks ans old new (TakesFields fs want)
  takes_fields new ans js same e c = record_checks old mid new fs is (length fs) want ans lab up refl there many is_lab
      (and_then one ans mid made new _ _ e (λ s u a d. subst (λ ts. EachHas ts fs) (sym (same_all mid s u is a many.sorts)) d) check (subst (λ js. Checks ans made new (λ s. EachHas (map s.types js) fs)) same c))

  pub takes_no_fields : one ≡ false → Checks false old made (TakesFields fs want)
  takes_no_fields e = record_checks old mid made fs is (length fs) want false lab up refl there many is_lab (and_not one mid made _ _ e check)
