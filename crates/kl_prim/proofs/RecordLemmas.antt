-- Records: their fields in order, apart, in part, and in canonical form.
use Rattle.std.proofs.Common.{◌≡◌, ◌≢◌, ℕ, zero, suc, Bool, true, false, not, cond, List, [], ◌∷◌, ◌++◌, map, take, Some, IsSome, is_some, nat_eq, refl, sym, ap, subst, ◌∙◌, true≢false, Ordering, Less, Equal, Greater, is_gt}
use Rattle.std.specs.Cmp.Lexicographic.{pointwise}
use Rattle.std.specs.FinMap.{nat_cmp-IsAntisymmetric, slice_cmp-IsAntisymmetric}
use Rattle.std.specs.List.{AllByRecursion}
use Rattle.std.specs.List.Sorted.{IsStrictlySortedBy}
use Rattle.std.specs.Ordering.{ordering_reverse}
use Rattle.std.proofs.lemmas.Bool.{and_parts}
use Rattle.std.proofs.lemmas.Cmp.{on_total, nat_list_cmp_total, nat_list_eq_equiv}
use Rattle.std.proofs.lemmas.List.Elements.{recursion_from_All}
use Rattle.kl_base.specs.Fields.{bytes_cmp, field, labels_of, LabelsRise}
use Rattle.kl_base.specs.Sorted.{IsRising, put_in}
use Rattle.kl_base.proofs.Each.{all_append}
use Rattle.kl_base.proofs.SortedLemmas.{all-sorted}
use Rattle.kl_value.specs.IsCanonical.{IsCanonical, IsCanonicalLayer}
use Rattle.kl_value.specs.Order.{compare}
use Rattle.kl_value.specs.Views.{collection}
use Rattle.kl_value.specs.declared.Kind.{Kind}
use Rattle.kl_value.specs.declared.Kind.TheVariants as kind
use Rattle.kl_value.specs.declared.Value.{Value, Value-F, out-Value, map-Value, every-Value, every_here-Value, every_held-Value, roll-Value, roll-out-Value}
use Rattle.kl_value.specs.declared.Value.TheVariants as value
use Rattle.kl_value.proofs.IsCanonicalLemmas.{bag_made, bag_rising, items_canonical, list_made, record_made, set_made, set_strict}
use Rattle.kl_prim.specs.Fits.{TwoRecords, TwoOf, IsAny}
use Rattle.kl_prim.specs.Meaning.{Answer, gives, senseless}
use Rattle.kl_prim.specs.Records.{Fields, as_record, by_label, in_order, is_label_of, record_layer, share_none, without}

abbrev Name : Type 0
Name = List ℕ

is_below : (k l : Name) → is_gt (bytes_cmp k l) ≡ true → bytes_cmp l k ≡ Less
is_below k l h = nat_list_cmp_total.antisymm l k ∙ turned (bytes_cmp k l) h
  where
    turned : (o : Ordering) → is_gt o ≡ true → ordering_reverse o ≡ Less
    turned Less h = absurd (true≢false (sym h))
    turned Equal h = absurd (true≢false (sym h))
    turned Greater h = refl

is_above : (k l : Name) → is_gt (bytes_cmp k l) ≡ false → k ≢ l → bytes_cmp k l ≡ Less
is_above k l h d = by_order (bytes_cmp k l) refl h
  where
    by_order : (o : Ordering) → bytes_cmp k l ≡ o → is_gt o ≡ false → o ≡ Less
    by_order Less e h = refl
    by_order Equal e h = absurd (d (slice_cmp-IsAntisymmetric nat_cmp-IsAntisymmetric k l e))
    by_order Greater e h = absurd (true≢false h)

module _ {T : Type 0} where
  abbrev pub Above : Name → List (Name × T) → Type 0
  Above l ps = AllByRecursion (λ m. bytes_cmp l m ≡ Less) (labels_of ps)

  abbrev pub Apart : Name → List (Name × T) → Type 0
  Apart l ps = AllByRecursion (λ p. l ≢ p.0) ps

  -- ---- labels that differ rise strictly in their order

  above_all : (k l : Name) (ps : List (Name × T)) → bytes_cmp k l ≡ Less → Above l ps → Above k ps
  above_all k l [] h g = tt
  above_all k l (p ∷ ps) h g = (nat_list_cmp_total.trans k l p.0 h g.0, above_all k l ps h g.1)

  above_put : (l : Name) (x : Name × T) (ys : List (Name × T)) → bytes_cmp l x.0 ≡ Less → Above l ys → Above l (put_in by_label x ys)
  above_put l x [] h g = (h, tt)
  above_put l x (y ∷ ys) h g = elim (is_gt (by_label x y)) as (λ b. Above l (cond b (y ∷ put_in by_label x ys) (x ∷ y ∷ ys))) [ true ↦ (g.0, above_put l x ys h g.1) | false ↦ (h, g) ]

  rise_put : (x : Name × T) (ys : List (Name × T)) → LabelsRise ys → Apart x.0 ys → LabelsRise (put_in by_label x ys)
  unfolding IsStrictlySortedBy
  rise_put x [] up d = (tt, tt)
  rise_put x (y ∷ ys) up d = by_test (is_gt (by_label x y)) refl (rise_put x ys up.1 d.1)
    where
      by_test : (b : Bool) → is_gt (by_label x y) ≡ b → LabelsRise (put_in by_label x ys) → LabelsRise (cond b (y ∷ put_in by_label x ys) (x ∷ y ∷ ys))
      by_test true e rest = (above_put y.0 x ys (is_below x.0 y.0 e) up.0, rest)
      by_test false e rest = let less = is_above x.0 y.0 e d.0 in ((less, above_all x.0 y.0 ys less up.0), up)

  pub in_order_all : (P : Name × T → Type 0) (ps : List (Name × T)) → AllByRecursion P ps → AllByRecursion P (in_order ps)
  in_order_all P ps h = all-sorted by_label (on_total (λ p. p.0) nat_list_cmp_total) P ps h

  abbrev pub AllApart : List (Name × T) → Type 0
  AllApart [] = Unit {0}
  AllApart (p ∷ ps) = Apart p.0 ps × AllApart ps

  pub in_order_rises : (ps : List (Name × T)) → AllApart ps → LabelsRise (in_order ps)
  unfolding IsStrictlySortedBy
  in_order_rises [] d = tt
  in_order_rises (p ∷ ps) d = rise_put p (in_order ps) (in_order_rises ps d.1) (in_order_all (λ q. p.0 ≢ q.0) ps d.0)

  -- ---- the same fields stand in it

  found_put : (l : Name) (x : Name × T) (ys : List (Name × T)) → IsSome (field l (x ∷ ys)) → IsSome (field l (put_in by_label x ys))
  found_put l x [] h = h
  found_put l x (y ∷ ys) h =
      elim (is_gt (by_label x y)) as (λ b. IsSome (field l (cond b (y ∷ put_in by_label x ys) (x ∷ y ∷ ys)))) [
        | true ↦ by_labels (pointwise nat_eq l x.0) (pointwise nat_eq l y.0) h (found_put l x ys)
        | false ↦ h
      ]
    where
      by_labels : (b c : Bool) → IsSome (cond b (Some x.1) (cond c (Some y.1) (field l ys))) → (IsSome (cond b (Some x.1) (field l ys)) → IsSome (field l (put_in by_label x ys))) → IsSome (cond c (Some y.1) (field l (put_in by_label x ys)))
      by_labels b true h next = refl
      by_labels true false h next = next refl
      by_labels false false h next = next h

  pub in_order_found : (l : Name) (ps : List (Name × T)) → IsSome (field l ps) → IsSome (field l (in_order ps))
  in_order_found l [] h = h
  in_order_found l (p ∷ ps) h =
      found_put l p (in_order ps) (elim (pointwise nat_eq l p.0) as (λ b. IsSome (cond b (Some p.1) (field l ps)) → IsSome (cond b (Some p.1) (field l (in_order ps)))) [ true ↦ λ g. g | false ↦ λ g. in_order_found l ps g ] h)

-- ---- labels that differ

not_itself : (l m : Name) → bytes_cmp l m ≡ Less → l ≢ m
not_itself l m h e = let d : bytes_cmp l l ≡ Less = subst (λ k. bytes_cmp l k ≡ Less) (sym e) h in never d
  where
    never : bytes_cmp l l ≡ Less → ⊥
    never d = let f : Less ≡ ordering_reverse Less = sym d ∙ nat_list_cmp_total.antisymm l l ∙ ap ordering_reverse d in let z : ⊥ = cc in z

module _ {T : Type 0} where
  above_apart : (l : Name) (fs : List (Name × T)) → Above l fs → Apart l fs
  above_apart l [] h = tt
  above_apart l (f ∷ fs) h = (not_itself l f.0 h.0, above_apart l fs h.1)

  pub rise_apart : (fs : List (Name × T)) → LabelsRise fs → AllApart fs
  unfolding IsStrictlySortedBy
  rise_apart [] h = tt
  rise_apart (f ∷ fs) h = (above_apart f.0 fs h.0, rise_apart fs h.1)

  no_label : (l : Name) (fs : List (Name × T)) → is_label_of fs l ≡ false → Apart l fs
  no_label l [] h = tt
  no_label l (f ∷ fs) h = by_test (pointwise nat_eq l f.0) refl h (no_label l fs)
    where
      by_test : (b : Bool) → pointwise nat_eq l f.0 ≡ b → is_some (cond b (Some f.1) (field l fs)) ≡ false → (is_label_of fs l ≡ false → Apart l fs) → Apart l (f ∷ fs)
      by_test true e d next = absurd (true≢false d)
      by_test false e d next = ((λ same. true≢false (sym (subst (λ k. pointwise nat_eq l k ≡ true) same (nat_list_eq_equiv.refl l)) ∙ e)), next d)

not_true : (b : Bool) → not b ≡ true → b ≡ false
not_true true h = absurd (true≢false (sym h))
not_true false h = refl

pub both_apart : (fs gs : Fields) → AllApart fs → AllApart gs → share_none fs gs ≡ true → AllApart (fs ++ gs)
both_apart [] gs h k s = k
both_apart (f ∷ fs) gs h k s =
    let parts = and_parts (not (is_label_of gs f.0)) (share_none fs gs) s in
    (all_append (λ p. f.0 ≢ p.0) fs gs h.0 (no_label f.0 gs (not_true _ parts.0)), both_apart fs gs h.1 k parts.1)

-- ---- canonical records

abbrev pub Such : Type 0
Such = (v : Value) × every-Value IsCanonicalLayer v

abbrev AllGood : List (Name × Value) → Type 0
AllGood = AllByRecursion (λ f. every-Value IsCanonicalLayer f.1)

firsts : (es : List (Name × Such)) → AllGood (map (λ e. (e.0, e.1.0)) es)
firsts [] = tt
firsts (e ∷ es) = (e.1.1, firsts es)

held_fields : (x : Value-F Such) (fs : List (Name × Value)) → map-Value Such Value (λ e. e.0) x ≡ Value-F.Rec fs → AllGood fs
held_fields (Value-F.Rec es) fs e = let same : map (λ e. (e.0, e.1.0)) es ≡ fs = cc in subst AllGood same (firsts es)
held_fields x fs e = cc

pub fields_canonical : (fs : List (Name × Value)) → IsCanonical (value.Rec fs) → AllByRecursion (λ f. IsCanonical f.1) fs
unfolding IsCanonical
fields_canonical fs h = let held = every_held-Value IsCanonicalLayer (value.Rec fs) h in held_fields held.0 fs (held.1 ∙ value.outs-Rec fs)

pub fields_rise : (fs : Fields) → IsCanonical (value.Rec fs) → LabelsRise fs
unfolding IsCanonical
fields_rise fs h = subst IsCanonicalLayer (value.outs-Rec fs) (every_here-Value IsCanonicalLayer (value.Rec fs) h)

record_layer_form : (x : Value-F Value) (fs : Fields) → record_layer x ≡ Some fs → roll-Value x ≡ value.Rec fs
record_layer_form (Value-F.Rec gs) fs e = let same : gs ≡ fs = cc in value.rolls-Rec gs ∙ ap value.Rec same
record_layer_form x fs e = cc

pub record_form : (v : Value) (fs : Fields) → as_record v ≡ Some fs → v ≡ value.Rec fs
record_form v fs e = sym (roll-out-Value v) ∙ record_layer_form (out-Value v) fs e

module _ (test : Name → Bool) where
  pub without_all : (P : Name × Value → Type 0) (fs : Fields) → AllByRecursion P fs → AllByRecursion P (without test fs)
  without_all P [] h = tt
  without_all P (f ∷ fs) h =
      elim (test f.0) as (λ b. AllByRecursion P (cond (not b) (f ∷ without test fs) (without test fs))) [ true ↦ without_all P fs h.1 | false ↦ (h.0, without_all P fs h.1) ]

  without_above : (l : Name) (fs : Fields) → Above l fs → Above l (without test fs)
  without_above l [] h = tt
  without_above l (f ∷ fs) h =
      elim (test f.0) as (λ b. Above l (cond (not b) (f ∷ without test fs) (without test fs))) [ true ↦ without_above l fs h.1 | false ↦ (h.0, without_above l fs h.1) ]

  pub without_rises : (fs : Fields) → LabelsRise fs → LabelsRise (without test fs)
  unfolding IsStrictlySortedBy
  without_rises [] h = tt
  without_rises (f ∷ fs) h =
      elim (test f.0) as (λ b. LabelsRise (cond (not b) (f ∷ without test fs) (without test fs))) [
        | true ↦ without_rises fs h.1
        | false ↦ (without_above f.0 fs h.0, without_rises fs h.1)
      ]

abbrev IsClean : Name × Value → Type 0
IsClean f = IsCanonical f.1

pub extended_canonical : (fs gs : Fields) → IsCanonical (value.Rec fs) → IsCanonical (value.Rec gs) → share_none fs gs ≡ true → IsCanonical (value.Rec (in_order (fs ++ gs)))
extended_canonical fs gs h k s =
    record_made (in_order (fs ++ gs)) (in_order_all IsClean (fs ++ gs) (all_append IsClean fs gs (fields_canonical fs h) (fields_canonical gs k)))
    (in_order_rises (fs ++ gs) (both_apart fs gs (rise_apart fs (fields_rise fs h)) (rise_apart gs (fields_rise gs k)) s))

pub rest_canonical : (test : Name → Bool) (fs : Fields) → IsCanonical (value.Rec fs) → IsCanonical (value.Rec (without test fs))
rest_canonical test fs h = record_made (without test fs) (without_all test IsClean fs (fields_canonical fs h)) (without_rises test fs (fields_rise fs h))

-- ---- the first items of a canonical collection

pub all_take : {X : Type 0} (P : X → Type 0) (n : ℕ) (xs : List X) → AllByRecursion P xs → AllByRecursion P (take n xs)
all_take P zero xs h = tt
all_take P (suc n) [] h = tt
all_take P (suc n) (x ∷ xs) h = (h.0, all_take P n xs h.1)

take_strict : (n : ℕ) (vs : List Value) → IsStrictlySortedBy compare vs → IsStrictlySortedBy compare (take n vs)
unfolding IsStrictlySortedBy
take_strict zero vs h = tt
take_strict (suc n) [] h = tt
take_strict (suc n) (v ∷ vs) h = (all_take (λ w. compare v w ≡ Less) n vs h.0, take_strict n vs h.1)

take_rising : (n : ℕ) (vs : List Value) → IsRising compare vs → IsRising compare (take n vs)
take_rising zero vs h = tt
take_rising (suc n) [] h = tt
take_rising (suc n) (v ∷ vs) h = (all_take (λ w. is_gt (compare v w) ≡ false) n vs h.0, take_rising n vs h.1)

pub first_canonical : (k : Kind) (n : ℕ) (vs : List Value) → IsCanonical (collection k vs) → IsCanonical (collection k (take n vs))
first_canonical k n vs h = by_kind k h (all_take IsCanonical n vs (recursion_from_All IsCanonical vs (items_canonical k vs h)))
  where
    by_kind : (k : Kind) → IsCanonical (collection k vs) → AllByRecursion IsCanonical (take n vs) → IsCanonical (collection k (take n vs))
    by_kind kind.Set h all = set_made (take n vs) all (take_strict n vs (set_strict vs h))
    by_kind kind.Bag h all = bag_made (take n vs) all (take_rising n vs (bag_rising vs h))
    by_kind kind.List h all = list_made (take n vs) all

-- ---- two records as arguments

module _ (test : Fields → Fields → Bool) where
  pub two_any : (args : List Value) → TwoRecords test args → TwoOf IsAny IsAny args
  two_any [] h = absurd h
  two_any (v ∷ []) h = absurd h
  two_any (v ∷ w ∷ []) h = (tt, tt)
  two_any (v ∷ w ∷ u ∷ vs) h = absurd h

  abbrev pub Made : (Fields → Fields → Value) → Fields → Fields → Answer
  Made make fs gs = cond (test fs gs) (gives (make fs gs)) senseless
