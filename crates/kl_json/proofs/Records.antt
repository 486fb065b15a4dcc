-- Labels that differ, and the record of pairs.
use Rattle.std.proofs.Common.{◌≡◌, ℕ, Bool, true, false, cond, not, List, [], ◌∷◌, Some, None, Result, Ok, Err, nat_eq, refl, sym, ap, ◌∙◌, true≢false}
use Rattle.std.specs.Cmp.Lexicographic.{pointwise}
use Rattle.std.specs.List.{AllByRecursion, IsDistinct, list_all}
use Rattle.std.proofs.lemmas.Bool.{and_parts, and_from}
use Rattle.std.proofs.lemmas.Cmp.{then_total, on_total, nat_list_cmp_total}
use Rattle.std.proofs.lemmas.List.Sorted.{IsPermutation-refl}
use Rattle.kl_base.specs.Fields.{labels_of, IsFieldsOf, LabelsRise}
use Rattle.kl_base.proofs.SortedLemmas.{all-sorted}
use Rattle.kl_exchange.specs.Fields.{pair_cmp, fields_of}
use Rattle.kl_exchange.proofs.Pairs.{Pair, fields_are, fields_of_is, differ_from_fields}
use Rattle.kl_json.specs.Meaning.{differ, record_of}
use Rattle.kl_json.specs.declared.choices.Refusal.{Refusal}
use Rattle.kl_json.specs.declared.choices.Refusal.TheVariants as refusal
use Rattle.kl_value.specs.declared.Value.{Value}
use Rattle.kl_value.specs.declared.Value.TheVariants as value
use Rattle.kl_value.proofs.OrderLemmas.{compare_total}

apart : (l : List ℕ) (ls : List (List ℕ)) → list_all (λ m. not (pointwise nat_eq l m)) ls ≡ true → AllByRecursion (λ m. pointwise nat_eq l m ≡ false) ls
apart l [] h = tt
apart l (m ∷ ms) h = let both = and_parts _ _ h in (untrue (pointwise nat_eq l m) both.0, apart l ms both.1)
  where
    untrue : (b : Bool) → not b ≡ true → b ≡ false
    untrue true e = absurd (true≢false (sym e))
    untrue false e = refl

all_apart : (l : List ℕ) (ls : List (List ℕ)) → AllByRecursion (λ m. pointwise nat_eq l m ≡ false) ls → list_all (λ m. not (pointwise nat_eq l m)) ls ≡ true
all_apart l [] h = refl
all_apart l (m ∷ ms) h = and_from _ _ (ap not h.0) (all_apart l ms h.1)

distinct : (ls : List (List ℕ)) → differ ls ≡ true → IsDistinct (pointwise nat_eq) ls
unfolding IsDistinct
distinct [] h = tt
distinct (l ∷ ls) h = let both = and_parts _ _ h in (apart l ls both.0, distinct ls both.1)

differing : (ls : List (List ℕ)) → IsDistinct (pointwise nat_eq) ls → differ ls ≡ true
unfolding IsDistinct
differing [] h = refl
differing (l ∷ ls) h = and_from _ _ (all_apart l ls h.0) (differing ls h.1)

abbrev pub told : Bool → List Pair → Result Value Refusal
told b fs = cond b (Ok (value.Rec fs)) (Err refusal.Twice)

pub made : (pairs fs : List Pair) → IsFieldsOf pairs (Some fs) → Ok (value.Rec fs) ≡ record_of pairs
made pairs fs is =
    ap (λ gs. told true gs) (fields_are pairs fs is) ∙ ap (λ b. told b (fields_of pairs)) (sym (differing (labels_of pairs) (differ_from_fields pairs fs is)))

pub refused : (pairs : List Pair) → IsFieldsOf pairs None → Err refusal.Twice ≡ record_of pairs
refused pairs h =
    elim (differ (labels_of pairs)) as (λ b. differ (labels_of pairs) ≡ b → Err refusal.Twice ≡ told b (fields_of pairs)) [
      | true ↦ λ e. absurd (h (distinct (labels_of pairs) e))
      | false ↦ λ e. refl
    ] refl

-- the fields in their order are a record again
pub again : (pairs : List Pair) → differ (labels_of pairs) ≡ true → record_of (fields_of pairs) ≡ Ok (value.Rec (fields_of pairs))
again pairs e =
    let is = fields_of_is pairs (distinct (labels_of pairs) e) in
    sym (made (fields_of pairs) (fields_of pairs) (IsPermutation-refl (fields_of pairs), is.1))

pub all_fields : (P : Pair → Type 0) (pairs : List Pair) → AllByRecursion P pairs → AllByRecursion P (fields_of pairs)
unfolding fields_of
all_fields P pairs all =
    all-sorted pair_cmp (then_total (on_total (λ (f : Pair). f.0) nat_list_cmp_total) (on_total (λ (f : Pair). f.1) compare_total)) P pairs all

pub fields_rise : (pairs : List Pair) → differ (labels_of pairs) ≡ true → LabelsRise (fields_of pairs)
fields_rise pairs e = (fields_of_is pairs (distinct (labels_of pairs) e)).1
