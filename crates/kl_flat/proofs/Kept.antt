-- The columns that an ask keeps, by their places in a row.
use Rattle.std.proofs.Common.{◌≡◌, ◌<◌, ℕ, zero, suc, ◌+◌, Bool, true, false, List, [], ◌∷◌, ◌++◌, map, filter, length, take, get_or, Some, All, refl, sym, ap, ◌∙◌, arith, add-one, slice_get, length-append, append_assoc}
use Rattle.std.proofs.lemmas.Grind.{common_steps}
use Rattle.std.proofs.lemmas.List.{map-append}
use Rattle.std.proofs.lemmas.Option.{get_or_from_slice_get, slice_get-get_or, slice_get_read, slice_get_within, same_Some}
use Rattle.kl_base.specs.Fields.{labels_of}
use Rattle.kl_value.specs.declared.Value.{Value}
use Rattle.kl_value.specs.declared.Value.TheVariants as value
use Rattle.kl_outcome.specs.Outcome.{Name, record_layer}
use Rattle.kl_ask.specs.Asks.{is_kept, shown, shown_fields}
use Rattle.kl_flat.specs.Asked.{kept_places}

abbrev Fields : Type 0
Fields = List (Name × Value)

abbrev kept : List Name → Fields → Fields
kept keep fs = filter (λ f. is_kept keep f.0) fs

here : {T : Type 0} (before : List T) (x : T) (after : List T) → slice_get (before ++ x ∷ after) (length before) ≡ Some x
here [] x after = refl
here (y ∷ before) x after = here before x after

module _ (keep : List Name) where
  kept_at : (before fs : Fields) → map (slice_get (before ++ fs)) (kept_places keep (length before) (labels_of fs)) ≡ map Some (kept keep fs)
  kept_at before [] = refl
  kept_at before (f ∷ fs) =
      let size : length (before ++ f ∷ []) ≡ suc (length before) = length-append before (f ∷ []) ∙ add-one (length before) in
      by (is_kept keep f.0) refl ((λ i. map (slice_get (sym (append_assoc before (f ∷ []) fs) i)) (kept_places keep (sym size i) (labels_of fs))) ∙ kept_at (before ++ f ∷ []) fs)
    where
      by : (b : Bool) → is_kept keep f.0 ≡ b → map (slice_get (before ++ f ∷ fs)) (kept_places keep (suc (length before)) (labels_of fs)) ≡ map Some (kept keep fs)
          → map (slice_get (before ++ f ∷ fs)) (kept_places keep (length before) (labels_of (f ∷ fs))) ≡ map Some (kept keep (f ∷ fs))
      by true is more = rw is (λ i. here before f fs i ∷ more i)
      by false is more = rw is more

all_within : {T : Type 0} (xs : List T) (places : List ℕ) (ys : List T) → map (slice_get xs) places ≡ map Some ys → All (λ p. p < length xs) places
all_within xs [] ys e k d lt = absurd (omega arith)
all_within xs (p ∷ places) [] e k d lt = cc
all_within xs (p ∷ places) (y ∷ ys) e zero d lt = let first : slice_get xs p ≡ Some y = cc in slice_get_within xs p y first
all_within xs (p ∷ places) (y ∷ ys) e (suc k) d lt = let others : map (slice_get xs) places ≡ map Some ys = cc in all_within xs places ys others k d (omega arith)

same_items : {T : Type 0} (xs ys : List T) → map Some xs ≡ map Some ys → xs ≡ ys
same_items [] [] e = refl
same_items [] (y ∷ ys) e = cc
same_items (x ∷ xs) [] e = cc
same_items (x ∷ xs) (y ∷ ys) e =
    let first : Some x ≡ Some y = cc in
    let others : map Some xs ≡ map Some ys = cc in
    (λ i. same_Some _ _ first i ∷ same_items xs ys others i)

-- one more item is copied
pub copies_more : {T : Type 0} (xs : List T) (places : List ℕ) (i : ℕ) (x y : T) (copies after : List T) → i < length places → get_or places i 0 < length xs → x ≡ get_or xs (get_or places i 0) x → y ≡ x → after ≡ copies ++ y ∷ []
    → map Some copies ≡ map (slice_get xs) (take i places) → map Some after ≡ map (slice_get xs) (take (i + 1) places)
copies_more xs places i x y copies after lt within is same more so_far =
    let p : ℕ = get_or places i 0 in
    let longer : take (i + 1) places ≡ take i places ++ p ∷ [] = grind (arith, common_steps) in
    let there : slice_get xs p ≡ Some x = slice_get_read xs (length xs) p x refl within is in
    ap (map Some) more ∙ map-append Some copies (y ∷ []) ∙ (λ k. so_far k ++ Some (same k) ∷ []) ∙ ap (λ o. map (slice_get xs) (take i places) ++ o ∷ []) (sym there)
    ∙ sym (map-append (slice_get xs) (take i places) (p ∷ [])) ∙ ap (map (slice_get xs)) (sym longer)

pub copies_at : {T : Type 0} (xs : List T) (places : List ℕ) (i : ℕ) (d : T) (copies after : List T) → i < length places → get_or places i 0 < length xs → after ≡ copies ++ get_or xs (get_or places i 0) d ∷ []
    → map Some copies ≡ map (slice_get xs) (take i places) → map Some after ≡ map (slice_get xs) (take (i + 1) places)
copies_at xs places i d copies after lt within more so_far =
    let x = get_or xs (get_or places i 0) d in
    copies_more xs places i x x copies after lt within (sym (get_or_from_slice_get xs (get_or places i 0) x x (slice_get-get_or xs (get_or places i 0) d within))) refl more so_far

-- one more field is copied
pub one_more : (fs : Fields) (places : List ℕ) (i : ℕ) (f : Name × Value) (l : Name) (v : Value) (copies after : Fields) → i < length places → get_or places i 0 < length fs → f ≡ get_or fs (get_or places i 0) f → l ≡ f.0 → v ≡ f.1 → after ≡ copies ++ (l, v) ∷ []
    → map Some copies ≡ map (slice_get fs) (take i places) → map Some after ≡ map (slice_get fs) (take (i + 1) places)
one_more fs places i f l v copies after lt within is label same more so_far = copies_more fs places i f (l, v) copies after lt within is (λ k. (label k, same k)) more so_far

-- the kept fields of a record
module _ (keep : List Name) (fs : Fields) (places : List ℕ) (same : places ≡ kept_places keep 0 (labels_of fs)) where
  kept_here : map (slice_get fs) places ≡ map Some (kept keep fs)
  kept_here = ap (map (slice_get fs)) same ∙ kept_at keep [] fs

  pub places_within : All (λ p. p < length fs) places
  places_within = all_within fs places (kept keep fs) kept_here

  pub shown_record : (copies : Fields) → map Some copies ≡ map (slice_get fs) places → value.Rec copies ≡ shown keep (value.Rec fs)
  shown_record copies e =
      ap value.Rec (same_items copies (kept keep fs) (e ∙ kept_here))
      ∙ ap (shown_fields (value.Rec fs) keep) (ap record_layer (sym (value.outs-Rec fs)))
