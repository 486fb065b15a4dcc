-- What is written of a value that a JSON value is, is that value again.
use Rattle.std.proofs.Common.{◌≡◌, ℕ, ℤ, Bool, true, false, cond, ◌||◌, eqb, List, [], ◌∷◌, ◌++◌, map, Option, Some, None, IsTrue, Result, Ok, Err, refl, ap, subst, ◌∙◌, arith}
use Rattle.std.specs.Char.{is_ascii_alphabetic, is_ascii_alphanumeric}
use Rattle.std.specs.Int.{is_in_range}
use Rattle.std.specs.Fmt.{signed_decimal}
use Rattle.std.specs.List.{AllByRecursion, list_all}
use Rattle.std.proofs.lemmas.Bool.{and_parts}
use Rattle.std.proofs.lemmas.Bool.Decides.{nat_tests}
use Rattle.json.specs.Json.{Json, null, boolean, number, string, array, object, Items, no_items, item, Members, no_members, member}
use Rattle.kl_base.specs.Fields.{labels_of}
use Rattle.kl_base.specs.Word.{is_word, is_word_byte, label_of}
use Rattle.kl_exchange.specs.Fields.{fields_of}
use Rattle.kl_json.specs.Meaning.{each, then, null_meaning, spelt, word_byte, as_word, word_or_refused, label_meaning, differ, record_of, meaning, items_meaning, members_meaning}
use Rattle.kl_json.specs.Written.{json_of, items_json, fields_json}
use Rattle.kl_json.specs.declared.choices.Choices.{Choices}
use Rattle.kl_json.specs.declared.choices.Refusal.{Refusal}
use Rattle.kl_json.proofs.Numbers.{number_back, found_fits}
use Rattle.kl_json.proofs.Records.{again, all_fields, told}
use Rattle.kl_json.proofs.WrittenLemmas.{json-Bool, json-Int, json-Text, json-Rec, json-List}
use Rattle.kl_prim.specs.Meaning.{number_in}
use Rattle.kl_value.specs.declared.Value.{Value}
use Rattle.kl_value.specs.declared.Value.TheVariants as value

-- ---- words

byte_stays : (b : ℕ) → is_word_byte b ≡ true → word_byte b ≡ b
byte_stays b h =
    elim (is_ascii_alphanumeric b) as (λ a. (a || eqb b 95) ≡ true → cond a b 95 ≡ b) [
      | true ↦ λ e. refl
      | false ↦ λ e. grind (arith, nat_tests, e)
    ] h

bytes_stay : (bs : List ℕ) → list_all is_word_byte bs ≡ true → map word_byte bs ≡ bs
bytes_stay [] h = refl
bytes_stay (b ∷ bs) h = let both = and_parts _ _ h in λ i. byte_stays b both.0 i ∷ bytes_stay bs both.1 i

letter_stays : (b : ℕ) → is_ascii_alphabetic b ≡ true → word_byte b ≡ b
letter_stays b h = ap (λ a. cond a b 95) (one_more (is_in_range 48 57 b) (is_in_range 65 90 b) (is_in_range 97 122 b) h)
  where
    one_more : (digit upper lower : Bool) → (upper || lower) ≡ true → ((digit || upper) || lower) ≡ true
    one_more true upper lower e = refl
    one_more false upper lower e = e

word_stays : (l : List ℕ) → is_word l ≡ true → as_word l ≡ l
word_stays [] h = cc
word_stays (b ∷ bs) h =
    let both = and_parts (is_ascii_alphabetic b) (list_all is_word_byte bs) h in
    let same : map word_byte (b ∷ bs) ≡ b ∷ bs = λ i. letter_stays b both.0 i ∷ bytes_stay bs both.1 i in
    ap (λ a. cond a [] (120 ∷ []) ++ map word_byte (b ∷ bs)) both.0 ∙ same

is_a_word : (x l : List ℕ) → word_or_refused (label_of x) ≡ Ok l → is_word l ≡ true
is_a_word x l h =
    elim (is_word x) as (λ b. is_word x ≡ b → word_or_refused (cond b (Some x) None) ≡ Ok l → is_word l ≡ true) [
      | true ↦ λ e f. let same : x ≡ l = cc in subst (λ y. is_word y ≡ true) same e
      | false ↦ λ e f. cc
    ] refl h

pub label_word : (c : Choices) (k l : List ℕ) → label_meaning c k ≡ Ok l → IsTrue (is_word l)
label_word c k l h = is_a_word (cond c.words (as_word k) k) l h

pub label_kept : (c : Choices) (k l : List ℕ) → label_meaning c k ≡ Ok l → label_meaning c l ≡ Ok l
label_kept c k l h =
    let word = is_a_word (cond c.words (as_word k) k) l h in
    let same : cond c.words (as_word l) l ≡ l = elim c.words as (λ b. cond b (as_word l) l ≡ l) [ true ↦ word_stays l word | false ↦ refl ] in
    ap (λ y. word_or_refused (label_of y)) same ∙ ap (λ b. word_or_refused (cond b (Some l) None)) word

-- ---- values

module _ (c : Choices) (refuses : c.null ≡ None) where
  abbrev Back : Value → Type 0
  Back v = meaning c (json_of v) ≡ Ok v

  abbrev BackField : List ℕ × Value → Type 0
  BackField f = (label_meaning c f.0 ≡ Ok f.0) × Back f.1

  items_again : (vs : List Value) → AllByRecursion Back vs → items_meaning c (items_json vs) ≡ Ok vs
  items_again [] all = refl
  items_again (v ∷ vs) all =
      ap (λ r. then r (λ w. each (λ ws. w ∷ ws) (items_meaning c (items_json vs)))) all.0 ∙ ap (each (λ ws. v ∷ ws)) (items_again vs all.1)

  fields_again : (fs : List (List ℕ × Value)) → AllByRecursion BackField fs → members_meaning c (fields_json fs) ≡ Ok fs
  fields_again [] all = refl
  fields_again (f ∷ fs) all =
      ap (λ r. then r (λ l. then (meaning c (json_of f.1)) (λ v. each (λ gs. (l, v) ∷ gs) (members_meaning c (fields_json fs))))) all.0.0
      ∙ ap (λ r. then r (λ v. each (λ gs. (f.0, v) ∷ gs) (members_meaning c (fields_json fs)))) all.0.1
      ∙ ap (each (λ gs. f ∷ gs)) (fields_again fs all.1)

  null_back : (o : Option (List ℕ)) (v : Value) → o ≡ None → null_meaning o ≡ Ok v → Back v
  null_back None v e h = cc
  null_back (Some l) v e h = cc

  number_case : (s : List ℕ) (b : Bool) (o : Option ℤ) (v : Value) → number_in s ≡ o → c.text_numbers ≡ b → spelt b s o ≡ Ok v → Back v
  number_case s b (Some n) v is e h =
      let same : value.Int n ≡ v = cc in
      subst Back same (ap (meaning c) (json-Int n) ∙ ap (spelt c.text_numbers (signed_decimal n)) (number_back n (found_fits s n is)))
  number_case s true None v is e h = let same : value.Text s ≡ v = cc in subst Back same (ap (meaning c) (json-Text s))
  number_case s false None v is e h = cc

  items_case : (v : Value) (r : Result (List Value) Refusal) → ((vs : List Value) → r ≡ Ok vs → AllByRecursion Back vs) → each value.List r ≡ Ok v → Back v
  items_case v (Ok vs) f h =
      let same : value.List vs ≡ v = cc in
      subst Back same (ap (meaning c) (json-List vs) ∙ ap (each value.List) (items_again vs (f vs refl)))
  items_case v (Err e) f h = cc

  record_case : (v : Value) (fs : List (List ℕ × Value)) → AllByRecursion BackField fs → record_of fs ≡ Ok v → Back v
  record_case v fs all h =
      elim (differ (labels_of fs)) as (λ b. differ (labels_of fs) ≡ b → told b (fields_of fs) ≡ Ok v → Back v) [
        | true ↦ λ e f.
            let same : value.Rec (fields_of fs) ≡ v = cc in
            subst Back same (ap (meaning c) (json-Rec (fields_of fs)) ∙ ap (λ r. then r record_of) (fields_again (fields_of fs) (all_fields BackField fs all)) ∙ again fs e)
        | false ↦ λ e f. cc
      ] refl h

  members_case : (v : Value) (r : Result (List (List ℕ × Value)) Refusal) → ((fs : List (List ℕ × Value)) → r ≡ Ok fs → AllByRecursion BackField fs) → then r record_of ≡ Ok v → Back v
  members_case v (Ok fs) f h = record_case v fs (f fs refl) h
  members_case v (Err e) f h = cc

  item_step : (vs : List Value) (r : Result Value Refusal) (s : Result (List Value) Refusal) → ((v : Value) → r ≡ Ok v → Back v)
      → ((ws : List Value) → s ≡ Ok ws → AllByRecursion Back ws) → then r (λ v. each (λ ws. v ∷ ws) s) ≡ Ok vs → AllByRecursion Back vs
  item_step vs (Ok v) (Ok ws) f g h = let same : v ∷ ws ≡ vs = cc in subst (AllByRecursion Back) same (f v refl, g ws refl)
  item_step vs (Ok v) (Err e) f g h = cc
  item_step vs (Err e) s f g h = cc

  member_step : (k : List ℕ) (fs : List (List ℕ × Value)) (q : Result (List ℕ) Refusal) (r : Result Value Refusal) (s : Result (List (List ℕ × Value)) Refusal)
      → label_meaning c k ≡ q → ((v : Value) → r ≡ Ok v → Back v) → ((gs : List (List ℕ × Value)) → s ≡ Ok gs → AllByRecursion BackField gs)
      → then q (λ l. then r (λ v. each (λ gs. (l, v) ∷ gs) s)) ≡ Ok fs → AllByRecursion BackField fs
  member_step k fs (Ok l) (Ok v) (Ok gs) is f g h =
      let same : (l, v) ∷ gs ≡ fs = cc in subst (AllByRecursion BackField) same ((label_kept c k l is, f v refl), g gs refl)
  member_step k fs (Ok l) (Ok v) (Err e) is f g h = cc
  member_step k fs (Ok l) (Err e) s is f g h = cc
  member_step k fs (Err e) r s is f g h = cc

  mutual
    pub back : (j : Json) (v : Value) → meaning c j ≡ Ok v → meaning c (json_of v) ≡ Ok v
    back null v h = null_back c.null v refuses h
    back (boolean b) v h = let same : value.Bool b ≡ v = cc in subst Back same (ap (meaning c) (json-Bool b))
    back (number s) v h = number_case s c.text_numbers (number_in s) v refl refl h
    back (string s) v h = let same : value.Text s ≡ v = cc in subst Back same (ap (meaning c) (json-Text s))
    back (array js) v h = items_case v (items_meaning c js) (items_back js) h
    back (object ms) v h = members_case v (members_meaning c ms) (members_back ms) h

    items_back : (js : Items) (vs : List Value) → items_meaning c js ≡ Ok vs → AllByRecursion Back vs
    items_back no_items vs h = let same : [] ≡ vs = cc in subst (AllByRecursion Back) same tt
    items_back (item j js) vs h = item_step vs (meaning c j) (items_meaning c js) (back j) (items_back js) h

    members_back : (ms : Members) (fs : List (List ℕ × Value)) → members_meaning c ms ≡ Ok fs → AllByRecursion BackField fs
    members_back no_members fs h = let same : [] ≡ fs = cc in subst (AllByRecursion BackField) same tt
    members_back (member k j ms) fs h = member_step k fs (label_meaning c k) (meaning c j) (members_meaning c ms) refl (back j) (members_back ms) h
