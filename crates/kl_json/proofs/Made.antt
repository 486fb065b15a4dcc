-- What a JSON value is, is a canonical value, whose text is an item of it.
use Rattle.std.proofs.Common.{◌≡◌, ◌≤◌, ℕ, ℤ, Bool, true, false, List, [], ◌∷◌, ◌++◌, codes, Option, Some, None, IsTrue, Result, Ok, Err, refl, subst}
use Rattle.std.specs.List.{AllByRecursion}
use Rattle.json.specs.Json.{Json, null, boolean, number, string, array, object, Items, no_items, item, Members, no_members, member}
use Rattle.kl_base.specs.Fields.{labels_of}
use Rattle.kl_base.specs.Word.{is_word}
use Rattle.kl_exchange.specs.Fields.{fields_of}
use Rattle.kl_exchange.specs.Grammar.{IsItem}
use Rattle.kl_exchange.specs.Stored.{IsStored}
use Rattle.kl_exchange.proofs.ReadsBack.{item_back}
use Rattle.kl_exchange.proofs.StoredLemmas.{StoredField, bool_stored, int_stored, text_stored, record_stored, items_stored}
use Rattle.kl_json.specs.Meaning.{each, then, null_meaning, spelt, label_meaning, differ, record_of, meaning, items_meaning, members_meaning}
use Rattle.kl_json.specs.declared.choices.Choices.{Choices}
use Rattle.kl_json.specs.declared.choices.Refusal.{Refusal}
use Rattle.kl_json.proofs.Back.{label_word}
use Rattle.kl_json.proofs.Numbers.{found_signed}
use Rattle.kl_json.proofs.Records.{all_fields, fields_rise, told}
use Rattle.kl_prim.specs.Meaning.{number_in}
use Rattle.kl_value.specs.IsCanonical.{IsCanonical}
use Rattle.kl_value.specs.Shape.{depth_of}
use Rattle.kl_value.specs.Written.{text_of}
use Rattle.kl_value.specs.declared.Kind.TheVariants as kind
use Rattle.kl_value.specs.declared.Value.{Value}
use Rattle.kl_value.specs.declared.Value.TheVariants as value
use Rattle.kl_value.proofs.IsCanonicalLemmas.{bool_made, int_made, text_made, list_made, record_made}

record Made (v : Value) : Type 0 where
  pub canonical : IsCanonical v
  pub stored : IsStored v

abbrev MadeField : List ℕ × Value → Type 0
MadeField f = IsTrue (is_word f.0) × Made f.1

all_canonical : (vs : List Value) → AllByRecursion Made vs → AllByRecursion IsCanonical vs
all_canonical [] all = tt
all_canonical (v ∷ vs) all = (all.0.canonical, all_canonical vs all.1)

all_stored : (vs : List Value) → AllByRecursion Made vs → AllByRecursion IsStored vs
all_stored [] all = tt
all_stored (v ∷ vs) all = (all.0.stored, all_stored vs all.1)

fields_canonical : (fs : List (List ℕ × Value)) → AllByRecursion MadeField fs → AllByRecursion (λ f. IsCanonical f.1) fs
fields_canonical [] all = tt
fields_canonical (f ∷ fs) all = (all.0.1.canonical, fields_canonical fs all.1)

fields_stored : (fs : List (List ℕ × Value)) → AllByRecursion MadeField fs → AllByRecursion StoredField fs
fields_stored [] all = tt
fields_stored (f ∷ fs) all = ((all.0.0, all.0.1.stored), fields_stored fs all.1)

text_is : (t : List ℕ) → Made (value.Text t)
text_is t = record { canonical = text_made t; stored = text_stored (value.Text t) t refl }

module _ (c : Choices) (refuses : c.null ≡ None) where
  null_made : (o : Option (List ℕ)) (v : Value) → o ≡ None → null_meaning o ≡ Ok v → Made v
  null_made None v e h = cc
  null_made (Some l) v e h = cc

  number_made : (s : List ℕ) (b : Bool) (o : Option ℤ) (v : Value) → number_in s ≡ o → spelt b s o ≡ Ok v → Made v
  number_made s b (Some n) v is h =
      let same : value.Int n ≡ v = cc in
      subst Made same (record { canonical = int_made n; stored = int_stored (value.Int n) n refl (found_signed s n is) })
  number_made s true None v is h = let same : value.Text s ≡ v = cc in subst Made same (text_is s)
  number_made s false None v is h = cc

  items_made : (v : Value) (r : Result (List Value) Refusal) → ((vs : List Value) → r ≡ Ok vs → AllByRecursion Made vs) → each value.List r ≡ Ok v → Made v
  items_made v (Ok vs) f h =
      let same : value.List vs ≡ v = cc in
      let all = f vs refl in
      subst Made same (record { canonical = list_made vs (all_canonical vs all); stored = items_stored kind.List (value.List vs) vs refl (all_stored vs all) })
  items_made v (Err e) f h = cc

  record_is : (v : Value) (fs : List (List ℕ × Value)) → AllByRecursion MadeField fs → record_of fs ≡ Ok v → Made v
  record_is v fs all h =
      elim (differ (labels_of fs)) as (λ b. differ (labels_of fs) ≡ b → told b (fields_of fs) ≡ Ok v → Made v) [
        | true ↦ λ e f.
            let same : value.Rec (fields_of fs) ≡ v = cc in
            let mine = all_fields MadeField fs all in
            subst Made same (record {
              canonical = record_made (fields_of fs) (fields_canonical (fields_of fs) mine) (fields_rise fs e);
              stored = record_stored (value.Rec (fields_of fs)) (fields_of fs) refl (fields_stored (fields_of fs) mine);
            })
        | false ↦ λ e f. cc
      ] refl h

  members_made : (v : Value) (r : Result (List (List ℕ × Value)) Refusal) → ((fs : List (List ℕ × Value)) → r ≡ Ok fs → AllByRecursion MadeField fs) → then r record_of ≡ Ok v → Made v
  members_made v (Ok fs) f h = record_is v fs (f fs refl) h
  members_made v (Err e) f h = cc

  item_more : (vs : List Value) (r : Result Value Refusal) (s : Result (List Value) Refusal) → ((v : Value) → r ≡ Ok v → Made v)
      → ((ws : List Value) → s ≡ Ok ws → AllByRecursion Made ws) → then r (λ v. each (λ ws. v ∷ ws) s) ≡ Ok vs → AllByRecursion Made vs
  item_more vs (Ok v) (Ok ws) f g h = let same : v ∷ ws ≡ vs = cc in subst (AllByRecursion Made) same (f v refl, g ws refl)
  item_more vs (Ok v) (Err e) f g h = cc
  item_more vs (Err e) s f g h = cc

  member_more : (k : List ℕ) (fs : List (List ℕ × Value)) (q : Result (List ℕ) Refusal) (r : Result Value Refusal) (s : Result (List (List ℕ × Value)) Refusal)
      → label_meaning c k ≡ q → ((v : Value) → r ≡ Ok v → Made v) → ((gs : List (List ℕ × Value)) → s ≡ Ok gs → AllByRecursion MadeField gs)
      → then q (λ l. then r (λ v. each (λ gs. (l, v) ∷ gs) s)) ≡ Ok fs → AllByRecursion MadeField fs
  member_more k fs (Ok l) (Ok v) (Ok gs) is f g h =
      let same : (l, v) ∷ gs ≡ fs = cc in subst (AllByRecursion MadeField) same ((label_word c k l is, f v refl), g gs refl)
  member_more k fs (Ok l) (Ok v) (Err e) is f g h = cc
  member_more k fs (Ok l) (Err e) s is f g h = cc
  member_more k fs (Err e) r s is f g h = cc

  mutual
    made : (j : Json) (v : Value) → meaning c j ≡ Ok v → Made v
    made null v h = null_made c.null v refuses h
    made (boolean b) v h = let same : value.Bool b ≡ v = cc in subst Made same (record { canonical = bool_made b; stored = bool_stored (value.Bool b) b refl })
    made (number s) v h = number_made s c.text_numbers (number_in s) v refl h
    made (string s) v h = let same : value.Text s ≡ v = cc in subst Made same (text_is s)
    made (array js) v h = items_made v (items_meaning c js) (all_items js) h
    made (object ms) v h = members_made v (members_meaning c ms) (all_members ms) h

    all_items : (js : Items) (vs : List Value) → items_meaning c js ≡ Ok vs → AllByRecursion Made vs
    all_items no_items vs h = let same : [] ≡ vs = cc in subst (AllByRecursion Made) same tt
    all_items (item j js) vs h = item_more vs (meaning c j) (items_meaning c js) (made j) (all_items js) h

    all_members : (ms : Members) (fs : List (List ℕ × Value)) → members_meaning c ms ≡ Ok fs → AllByRecursion MadeField fs
    all_members no_members fs h = let same : [] ≡ fs = cc in subst (AllByRecursion MadeField) same tt
    all_members (member k j ms) fs h = member_more k fs (label_meaning c k) (meaning c j) (members_meaning c ms) refl (made j) (all_members ms) h

  pub item_written : (j : Json) (v : Value) (n : ℕ) → meaning c j ≡ Ok v → depth_of v ≤ n → IsItem n (text_of v ++ codes ";") v
  item_written j v n h deep = let m = made j v h in item_back n v m.canonical m.stored deep
