-- Cells of digits alone.
use Rattle.std.proofs.Common.{◌≡◌, ◌<◌, ◌≤◌, ◌+◌, ◌-◌, ◌^◌, ℕ, pos, neg_ℤ, true, false, ◌&&◌, ◌==◌, List, [], ◌∷◌, ◌++◌, reverse, length, drop, take, get_or, cond, nat_lt, nat_le, Some, None, refl, sym, ap, ◌∙◌, arith}
use Rattle.std.specs.Char.{digit_value, is_ascii_digit}
use Rattle.std.specs.Str.{all_ascii_digits}
use Rattle.std.specs.Str.Parse.{digits_value, starts_with_minus}
use Rattle.std.proofs.lemmas.Bool.{and_from, and_parts}
use Rattle.std.proofs.lemmas.Bool.Decides.{nat_tests}
use Rattle.std.proofs.lemmas.List.{reverse-append, reverse-reverse, take_more}
use Rattle.kl_prim.specs.Meaning.{fits_word, number_in}
use Rattle.kl_flat.specs.Cells.{is_blank, past_blanks, without_blanks}

pub digit_range : (c : ℕ) → is_ascii_digit c ≡ true → (48 ≤ c) × (c ≤ 57)
digit_range c e = let parts = and_parts (nat_le 48 c) (nat_le c 57) e in (grind (arith, nat_tests, parts.0), grind (arith, nat_tests, parts.1))

no_blank : (c : ℕ) → is_ascii_digit c ≡ true → is_blank c ≡ false
no_blank c e = let range = digit_range c e in grind (arith, nat_tests, range.0)

no_minus : (c : ℕ) → is_ascii_digit c ≡ true → (c == 45) ≡ false
no_minus c e = let range = digit_range c e in grind (arith, nat_tests, range.0)

pub digit_is : (c : ℕ) → is_ascii_digit c ≡ true → digit_value c ≡ c - 48
digit_is c e = let range = digit_range c e in grind (arith, nat_tests, range.0, range.1)

digits_and : (xs ys : List ℕ) → all_ascii_digits xs ≡ true → all_ascii_digits ys ≡ true → all_ascii_digits (xs ++ ys) ≡ true
digits_and [] ys all more = more
digits_and (x ∷ xs) ys all more = let parts = and_parts (is_ascii_digit x) (all_ascii_digits xs) all in and_from _ _ parts.0 (digits_and xs ys parts.1 more)

pub digits_more : (bs : List ℕ) (i : ℕ) → i < length bs → all_ascii_digits (take i bs) ≡ true → is_ascii_digit (get_or bs i 0) ≡ true → all_ascii_digits (take (i + 1) bs) ≡ true
digits_more bs i lt all digit = ap all_ascii_digits (take_more bs i 0 lt) ∙ digits_and (take i bs) (get_or bs i 0 ∷ []) all (and_from _ _ digit refl)

digits_reverse : (bs : List ℕ) → all_ascii_digits bs ≡ true → all_ascii_digits (reverse bs) ≡ true
digits_reverse [] all = refl
digits_reverse (b ∷ bs) all =
    let parts = and_parts (is_ascii_digit b) (all_ascii_digits bs) all in
    ap all_ascii_digits (reverse-append (b ∷ []) bs) ∙ digits_and (reverse bs) (b ∷ []) (digits_reverse bs parts.1) (and_from _ _ parts.0 refl)

no_blanks : (bs : List ℕ) → all_ascii_digits bs ≡ true → past_blanks bs ≡ bs
no_blanks [] all = refl
no_blanks (b ∷ bs) all = let parts = and_parts (is_ascii_digit b) (all_ascii_digits bs) all in ap (λ x. cond x (past_blanks bs) (b ∷ bs)) (no_blank b parts.0)

bare : (bs : List ℕ) → all_ascii_digits bs ≡ true → without_blanks bs ≡ bs
bare bs all = ap (λ xs. reverse (past_blanks (reverse xs))) (no_blanks bs all) ∙ ap reverse (no_blanks (reverse bs) (digits_reverse bs all)) ∙ reverse-reverse bs

-- digits alone write their number
pub digits_write : (bs : List ℕ) → 0 < length bs → all_ascii_digits bs ≡ true → digits_value 10 bs < 2 ^ 63 → Some (pos (digits_value 10 bs)) ≡ number_in (without_blanks bs)
digits_write [] some all small = absurd (omega (arith, some))
digits_write (b ∷ bs) some all small =
    let parts = and_parts (is_ascii_digit b) (all_ascii_digits bs) all in
    let minus : starts_with_minus (b ∷ bs) ≡ false = no_minus b parts.0 in
    let fits : nat_lt (digits_value 10 (b ∷ bs)) (2 ^ 63) ≡ true = grind (arith, nat_tests, small) in
    let long : nat_lt 0 (length (b ∷ bs)) ≡ true = grind (arith, nat_tests) in
    let read : number_in (b ∷ bs) ≡ Some (pos (digits_value 10 (b ∷ bs))) =
    (λ j. cond ((nat_lt 0 (length (drop (cond (minus j) 1 0) (b ∷ bs))) && all_ascii_digits (drop (cond (minus j) 1 0) (b ∷ bs))) && fits_word (cond (minus j) (neg_ℤ (pos (digits_value 10 (drop (cond (minus j) 1 0) (b ∷ bs))))) (pos (digits_value 10 (drop (cond (minus j) 1 0) (b ∷ bs))))))
    (Some (cond (minus j) (neg_ℤ (pos (digits_value 10 (drop (cond (minus j) 1 0) (b ∷ bs))))) (pos (digits_value 10 (drop (cond (minus j) 1 0) (b ∷ bs)))))) None)
    ∙ (λ j. cond ((long j && all j) && fits j) (Some (pos (digits_value 10 (b ∷ bs)))) None) in
    sym (ap number_in (bare (b ∷ bs) all) ∙ read)
