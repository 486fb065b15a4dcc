-- The answers of an ask have the type that the ask shows.
use Rattle.std.proofs.Common.{◌≡◌, ◌⊎◌, inl, inr, ⊎_elim, Bool, true, false, List, [], ◌∷◌, map, None, IsSome, cond, filter, refl, sym, ap, ◌∙◌, subst}
use Rattle.std.specs.List.{AllByRecursion, list_all}
use Rattle.std.specs.List.Sorted.{IsStrictlySortedBy}
use Rattle.std.proofs.lemmas.List.Kept.{IsStrictlySortedBy-filter}
use Rattle.std.proofs.lemmas.Option.{same_Some}
use Rattle.kl_base.specs.Fields.{bytes_cmp, labels_of, LabelsRise}
use Rattle.kl_value.specs.IsCanonical.{IsCanonical, IsCanonicalLayer}
use Rattle.kl_value.specs.Views.{bool_layer, int_layer, bytes_layer, collection}
use Rattle.kl_value.specs.declared.Kind.{Kind}
use Rattle.kl_value.specs.declared.Kind.TheVariants as kind
use Rattle.kl_value.specs.declared.Value.{Value, Value-F, out-Value, every_here-Value}
use Rattle.kl_value.specs.declared.Value.TheVariants as value
use Rattle.kl_value.proofs.IsCanonicalLemmas.{record_made}
use Rattle.kl_type.specs.Ground.{Ground, Row, bool, int, str, rec, var, coll, arrow, no_row, row}
use Rattle.kl_outcome.specs.Outcome.{Name, as_record, record_layer}
use Rattle.kl_outcome.specs.Typed.{HasFields, Inhabits}
use Rattle.kl_outcome.proofs.OutcomeTypes.{record_is}
use Rattle.kl_ask.specs.Asks.{answers, is_kept, passes, shown, shown_fields, shown_row, shown_type}
use Rattle.kl_ask.specs.declared.ask.ColTest.{ColTest}
use Rattle.kl_ship.proofs.Shown.{labels_kept}

-- ---- rows that are no records

-- a value of a base type
no_base : (x : Value-F Value) → IsSome (bool_layer x) ⊎ IsSome (int_layer x) ⊎ IsSome (bytes_layer x) → record_layer x ≡ None
no_base (Value-F.Rec fs) h = ⊎_elim (λ truth. cc) (λ other. ⊎_elim (λ number. cc) (λ text. cc) other) h
no_base x h = refl

collection_out : (k : Kind) (vs : List Value) → record_layer (out-Value (collection k vs)) ≡ None
collection_out kind.Set vs = ap record_layer (value.outs-Set vs)
collection_out kind.Bag vs = ap record_layer (value.outs-Bag vs)
collection_out kind.List vs = ap record_layer (value.outs-List vs)

-- ---- records

rises : (fs : List (Name × Value)) → IsCanonical (value.Rec fs) → LabelsRise fs
unfolding IsCanonical
rises fs h = subst IsCanonicalLayer (value.outs-Rec fs) (every_here-Value IsCanonicalLayer (value.Rec fs) h)

kept_each : {A : Type 0} (p : A → Bool) (P : A → Type 0) (xs : List A) → AllByRecursion P xs → AllByRecursion P (filter p xs)
kept_each p P [] h = tt
kept_each p P (x ∷ xs) h = each (p x) (kept_each p P xs h.1)
  where
    each : (b : Bool) → AllByRecursion P (filter p xs) → AllByRecursion P (cond b (x ∷ filter p xs) (filter p xs))
    each true rest = (h.0, rest)
    each false rest = rest

module _ (keep : List Name) where
  abbrev kept : List (Name × Value) → List (Name × Value)
  kept fs = filter (λ f. is_kept keep f.0) fs

  kept_have : (r : Row) (fs : List (Name × Value)) → HasFields r fs → HasFields (shown_row keep r) (kept fs)
  kept_have no_row fs h = ap kept h
  kept_have (row l t r) fs h = subst (λ gs. HasFields (shown_row keep (row l t r)) (kept gs)) (sym h.2) (each (is_kept keep l) (kept_have r h.1 h.4))
    where
      each : (b : Bool) → HasFields (shown_row keep r) (kept h.1) → HasFields (cond b (row l t (shown_row keep r)) (shown_row keep r)) (cond b ((l, h.0) ∷ kept h.1) (kept h.1))
      each true rest = (h.0, kept h.1, refl, h.3, rest)
      each false rest = rest

  record_shown : (r : Row) (v : Value) → Inhabits (rec r) v → Inhabits (shown_type keep (rec r)) (shown keep v)
  record_shown r v i =
      let parts = record_is r v i in
      let fs = parts.0 in
      let same : i.0.0 ≡ fs = same_Some _ _ (sym (ap as_record i.0.1 ∙ ap record_layer (value.outs-Rec i.0.0)) ∙ parts.1) in
      let up = rises fs (subst (λ gs. IsCanonical (value.Rec gs)) same (subst IsCanonical i.0.1 i.1)) in
      let made : value.Rec (kept fs) ≡ shown keep v = ap (shown_fields v keep) (sym parts.1) in
      let sorted = subst (IsStrictlySortedBy bytes_cmp) (sym (labels_kept (is_kept keep) fs)) (IsStrictlySortedBy-filter bytes_cmp (is_kept keep) (labels_of fs) up) in
      subst (Inhabits (rec (shown_row keep r))) made ((kept fs, refl, kept_have r fs parts.2.0), record_made (kept fs) (kept_each (λ f. is_kept keep f.0) (λ f. IsCanonical f.1) fs parts.2.1) sorted)

  -- what is no record stays whole
  as_it_is : (t : Ground) (v : Value) → as_record v ≡ None → Inhabits t v → Inhabits t (shown keep v)
  as_it_is t v none i = subst (Inhabits t) (sym (ap (shown_fields v keep) none)) i

  row_typed : (t : Ground) (v : Value) → Inhabits t v → Inhabits (shown_type keep t) (shown keep v)
  row_typed (rec r) v i = record_shown r v i
  row_typed bool v i = as_it_is bool v (no_base (out-Value v) (inl i.0)) i
  row_typed int v i = as_it_is int v (no_base (out-Value v) (inr (inl i.0))) i
  row_typed str v i = as_it_is str v (no_base (out-Value v) (inr (inr i.0))) i
  row_typed (var r) v i = as_it_is (var r) v (ap as_record i.0.2 ∙ ap record_layer (value.outs-Inj i.0.0 i.0.1)) i
  row_typed (coll k t) v i = as_it_is (coll k t) v (ap as_record i.0.1 ∙ collection_out k i.0.0) i
  row_typed (arrow a b) v i = absurd i.0

  pub answers_typed : (tests : List ColTest) (t : Ground) (rows : List Value) → AllByRecursion (Inhabits t) rows → AllByRecursion (Inhabits (shown_type keep t)) (answers rows keep tests)
  answers_typed tests t [] h = tt
  answers_typed tests t (v ∷ rows) h = each (list_all (passes v) tests) (answers_typed tests t rows h.1)
    where
      passing : List Value
      passing = filter (λ w. list_all (passes w) tests) rows

      each : (b : Bool) → AllByRecursion (Inhabits (shown_type keep t)) (map (shown keep) passing) → AllByRecursion (Inhabits (shown_type keep t)) (map (shown keep) (cond b (v ∷ passing) passing))
      each true rest = (row_typed t v h.0, rest)
      each false rest = rest
