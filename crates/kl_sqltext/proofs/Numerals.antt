-- Numbers, each with its reader.
use Rattle.std.proofs.Common.{◌≡◌, ℕ, zero, suc, ◌+◌, ◌*◌, ◌-◌, ◌^◌, ◌≤◌, ◌<◌, ◌==◌, nat_le, nat_lt, Bool, true, false, IsTrue, List, [], ◌∷◌, ◌++◌, length, get_or, Some, None, inl, inr, if◌then◌else◌, refl, sym, ap, subst, ◌∙◌, append_assoc, arith, zero-add, decimal, pos}
use Rattle.std.proofs.lemmas.Bool.{and_parts}
use Rattle.std.proofs.lemmas.Bool.Decides.{nat_tests}
use Rattle.std.proofs.lemmas.Fmt.{decimal_digit, decimal_is_IsNumeral, decimal_nonempty, first_decimal, decimal-digits_value}
use Rattle.std.proofs.lemmas.Str.Parse.{IsNumeralModel}
use Rattle.std.specs.Char.{digit_value}
use Rattle.std.specs.Str.Parse.{IsNumeral, AllDigits, digits_value, digits_value_after}
use Rattle.kl_phrase.specs.Words.{heads, Phrase, One, Made, Or}
use Rattle.kl_phrase.specs.Readers.{one, made, pick, behind, chain}
use Rattle.kl_phrase.proofs.Theory.{Decides, On, To, Chain}
use Rattle.kl_phrase.proofs.Firsts.{Stops, on_one, heads_without}
use Rattle.kl_sqltext.specs.Words.{ThisByte, TableNumber, Natural, Number, minus, most_table}
use Rattle.kl_sqltext.specs.Descent.{mark, is_digit, lets, with_digit, digits, a_digit, natural, is_zero, is_more, zeroth, place}
use Rattle.kl_sqltext.proofs.Flat.{ReadsFlat, reads_one, reads_made, reads_behind, reads_chain, reads_pick, reads_same, reads_follow}
use Rattle.kl_sqltext.proofs.Runs.{Leads, Run, reads_run}
use Rattle.kl_sqltext.specs.Descent.{is, gap}
use Rattle.kl_sqltext.specs.Words.{is_blank}
use Rattle.kl_sqltext.proofs.Gaps.{reads_gap_then}
use Rattle.kl_sqltext.proofs.Bytes.{on_mark, reads_mark}

digit_below : (t : ℕ) → is_digit t ≡ true → digit_value t < 10
digit_below t h = grind (arith, nat_tests)

below_digit : (t : ℕ) → digit_value t < 10 → is_digit t ≡ true
below_digit t h = grind (arith, nat_tests)

within : (a b : ℕ) → nat_le a b ≡ true → a ≤ b
within a b h = grind (arith, nat_tests)

at_most : (a b : ℕ) → a ≤ b → nat_le a b ≡ true
at_most a b h = grind (arith, nat_tests)

after_ge : (n : ℕ) (ds : List ℕ) → n ≤ digits_value_after 10 n ds
after_ge n [] = omega arith
after_ge n (d ∷ ds) = omega (arith, after_ge (n * 10 + digit_value d) ds)

abbrev Digits : ℕ → ℕ → Phrase ℕ ℕ
Digits limit = Run (lets limit) with_digit

module _ (limit : ℕ) where
  leads_digits : (a k : ℕ) (ts : List ℕ) → a ≤ limit → Leads (lets limit) with_digit a k ts → AllDigits 10 ts × (k ≡ digits_value_after 10 a ts) × (k ≤ limit)
  leads_digits a k [] le h = (tt, h, subst (λ z. z ≤ limit) (sym h) le)
  leads_digits a k (t ∷ ts) le h =
      let b = and_parts (is_digit t) (nat_le (a * 10 + digit_value t) limit) h.0 in
      let m = leads_digits (with_digit a t) k ts (within (a * 10 + digit_value t) limit b.1) h.1 in
      ((digit_below t b.0, m.0), m.1, m.2)

  digits_lead : (a : ℕ) (ts : List ℕ) → AllDigits 10 ts → digits_value_after 10 a ts ≤ limit → Leads (lets limit) with_digit a (digits_value_after 10 a ts) ts
  digits_lead a [] all le = refl
  digits_lead a (t ∷ ts) all le = (rw (below_digit t all.0, at_most (a * 10 + digit_value t) limit (omega (arith, le, after_ge (a * 10 + digit_value t) ts))) refl, digits_lead (with_digit a t) ts all.1 le)

  stops_digits : (k : ℕ) (v : List ℕ) → Stops is_digit v → heads (lets limit k) v ≡ false
  stops_digits k [] h = refl
  stops_digits k (t ∷ v) h = rw h refl

  reads_digits : (a : ℕ) → ReadsFlat (Digits limit a) (Stops is_digit) (digits limit a)
  reads_digits a = reads_run (lets limit) with_digit a (Stops is_digit) stops_digits

IsDigit : (ℕ → Bool) → ℕ → ℕ → Type 0
IsDigit test t k = (k ≡ digit_value t) × IsTrue (test t)

decides_digit : (test : ℕ → Bool) → Decides (IsDigit test) (a_digit test)
unfolding IsDigit
decides_digit test = (λ t k h. by t k (test t) refl h, λ t k h. rw h.1 (ap Some (sym h.0)))
  where
    by : (t k : ℕ) (b : Bool) → test t ≡ b → (if b then Some (digit_value t) else None) ≡ Some k → (k ≡ digit_value t) × IsTrue (test t)
    by t k true e h = let q : k ≡ digit_value t = cc in (q, e)
    by t k false e h = absurd cc

on_digit : (test : ℕ → Bool) → On test (One (IsDigit test))
unfolding IsDigit
on_digit test = on_one (λ t k h. h.1)

-- a digit of the test, and any more
Begun : (ℕ → Bool) → ℕ → Phrase ℕ ℕ
Begun test limit = Chain (One (IsDigit test)) (Digits limit)

begun_is : (test : ℕ → Bool) (limit n k : ℕ) (ts : List ℕ) → 9 ≤ limit → ((t : ℕ) → test t ≡ true → is_digit t ≡ true) → Begun test limit n k ts → (t : ℕ) × (v : List ℕ) × (ts ≡ t ∷ v) × (test t ≡ true) × AllDigits 10 (t ∷ v) × (k ≡ digits_value 10 (t ∷ v)) × (k ≤ limit)
unfolding Begun IsDigit
begun_is test limit n k ts big digit (d, u, v, e, (t, eu, (ed, h)), l) =
    let low = digit_below t (digit t h) in
    let m = leads_digits limit d k v (omega (arith, ed, low, big)) l in
    (t, v, e ∙ ap (λ z. z ++ v) eu, h, (low, m.0), m.1 ∙ (ap (λ z. digits_value_after 10 z v) ed ∙ ap (λ z. digits_value_after 10 z v) (sym (zero-add (digit_value t)))), m.2)

is_begun : (test : ℕ → Bool) (limit n k t : ℕ) (v ts : List ℕ) → ts ≡ t ∷ v → test t ≡ true → AllDigits 10 (t ∷ v) → k ≡ digits_value 10 (t ∷ v) → k ≤ limit → Begun test limit n k ts
unfolding Begun IsDigit
is_begun test limit n k t v ts e h all ek le =
    let same : digits_value_after 10 (digit_value t) v ≡ k = ap (λ z. digits_value_after 10 z v) (sym (zero-add (digit_value t))) ∙ sym ek in
    (digit_value t, t ∷ [], v, e, (t, refl, (refl, h)), subst (λ z. Leads (lets limit) with_digit (digit_value t) z v) same (digits_lead limit (digit_value t) v all.1 (omega (arith, same, le))))

reads_begun : (test : ℕ → Bool) (limit t : ℕ) → test t ≡ true → ReadsFlat (Begun test limit) (Stops is_digit) (chain (one (a_digit test)) (digits limit))
unfolding Begun IsDigit
reads_begun test limit t h = reads_chain (reads_one (decides_digit test) t (digit_value t) (refl, h)) (reads_digits limit) (λ a n b y v r h. tt)

on_begun : (test : ℕ → Bool) (limit : ℕ) → On test (Begun test limit)
unfolding Begun
on_begun test limit n k u v (d, y, z, e, s, r) = rw (e, append_assoc) (on_digit test n d y (z ++ v) s)

-- ---- digits up to a limit

pub reads_natural : (limit : ℕ) → 9 ≤ limit → ReadsFlat (Natural limit) (Stops is_digit) (natural limit)
reads_natural limit big = reads_same to from (reads_begun is_digit limit 48 refl)
  where
    to : To (Begun is_digit limit) (Natural limit)
    to n k ts h = let (t, v, e, d, all, value, le) = begun_is is_digit limit n k ts big (λ t h. h) h in
        subst (λ z. IsNumeral 10 z × (k ≡ digits_value 10 z) × (k ≤ limit)) (sym e) ((omega arith, all), value, le)

    from : To (Natural limit) (Begun is_digit limit)
    from n k [] ((some, all), value, le) = absurd (omega arith)
    from n k (t ∷ v) ((some, all), value, le) = is_begun is_digit limit n k t v (t ∷ v) refl (below_digit t all.0) all value le

pub on_natural : (limit : ℕ) → On is_digit (Natural limit)
on_natural limit n k [] v ((some, all), value, le) = absurd (omega arith)
on_natural limit n k (t ∷ u) v ((some, all), value, le) = below_digit t all.0

pub reads_number : ReadsFlat Number (Stops is_digit) (pick (is 45) (made minus (behind (mark 45) (behind gap (natural (2 ^ 63))))) (made pos (natural (2 ^ 63 - 1))))
reads_number = reads_pick (reads_made minus (reads_behind (reads_mark 45) (reads_gap_then (Stops is_digit) digit_solid (on_natural (2 ^ 63)) (reads_natural (2 ^ 63) (omega arith))) (λ n b y v r h. tt))) (reads_made pos (reads_natural (2 ^ 63 - 1) (omega arith)))
    (λ n z u v (k, ek, (x, y, e, s, r)). rw (e, append_assoc) (on_mark 45 n tt x (y ++ v) s))
    (λ n z u v (k, ek, h) c. heads_without no_minus (u ++ v) (on_natural (2 ^ 63 - 1) n k u v h))
  where
    no_minus : (t : ℕ) → is_digit t ≡ true → (t == 45) ≡ false
    no_minus t h = grind (arith, nat_tests)

    digit_solid : (t : ℕ) → is_digit t ≡ true → is_blank t ≡ false
    digit_solid t h = grind (arith, nat_tests)

-- ---- numbers of tables

own : IsNumeralModel (AllDigits 10) (digits_value 10)
own = record { to = λ ds h. h; from = λ ds h. h; same = λ ds h. refl }

Places : Phrase ℕ ℕ
Places = Or (Made zeroth (ThisByte 48)) (Begun is_more most_table)

more_digit : (t : ℕ) → is_more t ≡ true → is_digit t ≡ true
more_digit t h = (and_parts (is_digit t) (nat_lt 0 (digit_value t)) h).0

places_to : To Places TableNumber
unfolding Places
places_to n k ts (inl (a, ek, (t, e, et))) = (e ∙ ap (λ z. z ∷ []) et ∙ sym (decimal_digit 0 (omega arith)) ∙ ap decimal (sym ek), omega (arith, ek))
places_to n k ts (inr h) =
    let (t, v, e, d, all, value, le) = begun_is is_more most_table n k ts (omega arith) more_digit h in
    let not_zero : get_or (t ∷ v) 0 0 ≡ 48 → length (t ∷ v) ≡ 1 = λ z. absurd (zero t z d) in
    (e ∙ sym (decimal-digits_value own (t ∷ v) all (omega arith) not_zero (omega (arith, value, le))) ∙ ap decimal (sym value), le)
  where
    zero : (t : ℕ) → t ≡ 48 → is_more t ≡ true → ⊥
    zero t z h = let k : is_more 48 ≡ true = subst (λ y. is_more y ≡ true) z h in cc

first_more : (t : ℕ) → digit_value t < 10 → 48 < t → is_more t ≡ true
first_more t low big = grind (arith, nat_tests)

places_from : To TableNumber Places
unfolding Places
places_from n zero ts (e, le) = inl (tt, refl, (48, e ∙ decimal_digit 0 (omega arith), refl))
places_from n (suc k) ts (e, le) = by (decimal (suc k)) refl
  where
    by : (ds : List ℕ) → decimal (suc k) ≡ ds → Or (Made zeroth (ThisByte 48)) (Begun is_more most_table) n (suc k) ts
    by [] is = absurd (let z = decimal_nonempty (suc k) (omega arith) in let y : length (decimal (suc k)) ≡ 0 = ap length is in omega arith)
    by (t ∷ v) is =
        let num = decimal_is_IsNumeral (suc k) (omega arith) in
        let all : AllDigits 10 (t ∷ v) = subst (AllDigits 10) is num.0.1 in
        let big : 48 < t = subst (λ z. 48 < get_or z 0 0) is (first_decimal (suc k) (omega arith) (omega arith)) in
        inr (is_begun is_more most_table n (suc k) t v ts (e ∙ is) (first_more t all.0 big) all (sym num.1 ∙ ap (digits_value 10) is) le)

pub reads_place : ReadsFlat TableNumber (Stops is_digit) place
unfolding Places Begun
reads_place = reads_same places_to places_from (reads_pick (reads_follow (Stops is_digit) (λ v h. tt) (reads_made zeroth (reads_mark 48))) (reads_begun is_more most_table 49 refl)
    (λ n k u v (a, e, h). on_mark 48 n a u v h)
    (λ n k u v h c. heads_without no_zero (u ++ v) (on_begun is_more most_table n k u v h)))
  where
    no_zero : (t : ℕ) → is_more t ≡ true → is_zero t ≡ false
    no_zero t h = grind (arith, nat_tests)
