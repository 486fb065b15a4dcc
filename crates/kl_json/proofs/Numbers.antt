-- An integer is the number that its digits write.
use Rattle.std.proofs.Common.{◌≡◌, ℕ, suc, ◌<◌, ◌^◌, ℤ, pos, negsuc, neg_ℤ, Bool, true, false, cond, ◌&&◌, List, [], ◌∷◌, length, drop, Option, Some, None, refl, ap, subst, ◌∙◌, arith}
use Rattle.std.specs.Prelude.{FitsSigned}
use Rattle.std.specs.Int.{w64}
use Rattle.std.specs.Fmt.{decimal, signed_decimal}
use Rattle.std.specs.Str.Parse.{AllDigits, digits_value, starts_with_minus}
use Rattle.std.proofs.lemmas.Bool.{ltb-true, and_parts, and_from}
use Rattle.std.proofs.lemmas.Bool.Decides.{nat_tests}
use Rattle.std.proofs.lemmas.Fmt.{decimal_is_IsNumeral, decimal_nonempty, digits_decimal}
use Rattle.std.proofs.lemmas.Str.Parse.{numerals_by_value, tells_all_ascii_digits, digit_from_value}
use Rattle.kl_prim.specs.Meaning.{digits_part, fits_word, is_numeral, number_in, signed_value}

unsigned : (ds : List ℕ) → AllDigits 10 ds → starts_with_minus ds ≡ false
unsigned [] d = refl
unsigned (c ∷ cs) d = let low = digit_from_value c d.0 in grind (arith, nat_tests, low)

numeral : (n : ℕ) → n < 2 ^ 64 → is_numeral (decimal n) ≡ true
numeral n h =
    let some : 0 < length (decimal n) = decimal_nonempty n h in
    and_from _ _ (grind (arith, nat_tests, some)) (digits_decimal (numerals_by_value _ tells_all_ascii_digits) n h)

-- the number of a text, where it is known whether `-` is first
abbrev behind : Bool → List ℕ → List ℕ
behind minus t = drop (cond minus 1 0) t

abbrev number_by : Bool → List ℕ → ℕ → Option ℤ
number_by minus ds n = cond (is_numeral ds && fits_word (cond minus (neg_ℤ (pos n)) (pos n))) (Some (cond minus (neg_ℤ (pos n)) (pos n))) None

taken : (minus : Bool) (ds : List ℕ) (n : ℕ) → is_numeral ds ≡ true → digits_value 10 ds ≡ n → fits_word (cond minus (neg_ℤ (pos n)) (pos n)) ≡ true
    → number_by minus ds (digits_value 10 ds) ≡ Some (cond minus (neg_ℤ (pos n)) (pos n))
taken minus ds n is value fits =
    ap (λ k. number_by minus ds k) value ∙ ap (λ b. cond b (Some (cond minus (neg_ℤ (pos n)) (pos n))) None) (and_from _ _ is fits)

pub number_back : (n : ℤ) → fits_word n ≡ true → number_in (signed_decimal n) ≡ Some n
number_back (pos n) fits =
    let small : n < 2 ^ 63 = ltb-true n (2 ^ 63) fits in
    let within : n < 2 ^ 64 = omega arith in
    let is = decimal_is_IsNumeral n within in
    ap (λ b. number_by b (behind b (decimal n)) (digits_value 10 (behind b (decimal n)))) (unsigned (decimal n) is.0.1)
    ∙ taken false (decimal n) n (numeral n within) is.1 fits
number_back (negsuc n) fits =
    let small : n < 2 ^ 63 = ltb-true n (2 ^ 63) fits in
    let within : suc n < 2 ^ 64 = omega arith in
    let is = decimal_is_IsNumeral (suc n) within in
    taken true (decimal (suc n)) (suc n) (numeral (suc n) within) is.1 fits

pub found_fits : (s : List ℕ) (n : ℤ) → number_in s ≡ Some n → fits_word n ≡ true
found_fits s n h = by_test (is_numeral (digits_part s)) (signed_value s) h
  where
    by_test : (b : Bool) (z : ℤ) → cond (b && fits_word z) (Some z) None ≡ Some n → fits_word n ≡ true
    by_test b z found =
        elim (b && fits_word z) as (λ d. (b && fits_word z) ≡ d → cond d (Some z) None ≡ Some n → fits_word n ≡ true) [
          | true ↦ λ e f. let is : z ≡ n = cc in subst (λ y. fits_word y ≡ true) is (and_parts b (fits_word z) e).1
          | false ↦ λ e f. cc
        ] refl found

pub found_signed : (s : List ℕ) (n : ℤ) → number_in s ≡ Some n → FitsSigned w64 n
found_signed s (pos n) h = record { sfits = ltb-true n (2 ^ 63) (found_fits s (pos n) h) }
found_signed s (negsuc n) h = record { sfits = ltb-true n (2 ^ 63) (found_fits s (negsuc n) h) }
