-- The number that a text writes.
use Rattle.std.proofs.Common.{◌≡◌, ℕ, zero, suc, ◌<◌, ◌^◌, ℤ, pos, negsuc, neg_ℤ, Bool, true, false, cond, eqb, ltb, ◌&&◌, ◌≢◌, List, [], ◌∷◌, length, drop, take, nat_eq, get_or, Some, None, Result, Ok, Err, refl, sym, ap, subst, ◌∙◌, arith, FitsSigned, w64}
use Rattle.std.specs.Result.{result_ok}
use Rattle.std.specs.Cmp.Lexicographic.{pointwise}
use Rattle.std.specs.Str.{IsAscii, IsUtf8, all_ascii_digits}
use Rattle.std.specs.Str.Parse.{IsNumeral, ParsesSigned, digits_value, signed_digits_value, starts_with_minus, without_leading_plus, without_leading_sign}
use Rattle.std.proofs.lemmas.Bool.{ltb-true, and_parts, and_from}
use Rattle.std.proofs.lemmas.Bool.Decides.{nat_tests}
use Rattle.std.proofs.lemmas.Fmt.{IsAscii-from_digits}
use Rattle.std.proofs.lemmas.Str.{IsUtf8-from_ascii}
use Rattle.std.proofs.lemmas.Str.Parse.{IsNumeralModel, numerals_by_value, tells_all_ascii_digits, without_leading_plus_none}
use Rattle.kl_prim.specs.Meaning.{digits_part, fits_word, is_numeral, number_in, signed_value}

digits : IsNumeralModel (λ ds. all_ascii_digits ds ≡ true) (digits_value 10)
digits = numerals_by_value _ tells_all_ascii_digits

numeral_to : (ds : List ℕ) → is_numeral ds ≡ true → IsNumeral 10 ds
numeral_to ds e = let parts = and_parts (ltb 0 (length ds)) (all_ascii_digits ds) e in (ltb-true 0 (length ds) parts.0, digits.to ds parts.1)

numeral_from : (ds : List ℕ) → IsNumeral 10 ds → is_numeral ds ≡ true
numeral_from ds h = and_from _ _ (grind (arith, nat_tests)) (digits.from ds h.1)

fits_to : (z : ℤ) → fits_word z ≡ true → FitsSigned w64 z
fits_to (pos n) e = record { sfits = ltb-true n (2 ^ 63) e }
fits_to (negsuc n) e = record { sfits = ltb-true n (2 ^ 63) e }

fits_from : (z : ℤ) → FitsSigned w64 z → fits_word z ≡ true
fits_from (pos n) h = let below : n < 2 ^ 63 = h.sfits in grind (arith, nat_tests)
fits_from (negsuc n) h = let below : n < 2 ^ 63 = h.sfits in grind (arith, nat_tests)

unsigned_part : (t : List ℕ) → get_or t 0 0 ≢ 43 → without_leading_sign t ≡ digits_part t
unsigned_part t h =
    elim (starts_with_minus t) as (λ m. cond m (drop 1 t) (without_leading_plus t) ≡ drop (cond m 1 0) t) [
      | true ↦ refl
      | false ↦ without_leading_plus_none t h
    ]

signed_part : (t : List ℕ) → get_or t 0 0 ≢ 43 → signed_digits_value 10 t ≡ signed_value t
signed_part t h =
    ap (λ ds. cond (starts_with_minus t) (neg_ℤ (pos (digits_value 10 ds))) (pos (digits_value 10 ds))) (unsigned_part t h)

chosen : (a b : Bool) (z : ℤ) → a ≡ true → b ≡ true → cond (a && b) (Some z) None ≡ Some z
chosen a b z p q = ap (λ m. cond m (Some z) None) (and_from a b p q)

not_chosen : (a b : Bool) (z : ℤ) → (a ≡ true → b ≡ true → ⊥) → cond (a && b) (Some z) None ≡ None
not_chosen true true z h = absurd (h refl refl)
not_chosen true false z h = refl
not_chosen false b z h = refl

-- `parse` reads the number of a text that does not begin with `+`
pub parsed_is : {E : Type 0} (t : List ℕ) (r : Result ℤ E) → get_or t 0 0 ≢ 43 → ParsesSigned w64 10 t r → result_ok r ≡ number_in t
parsed_is t (Ok z) plain h =
    ap (λ y. Some y) (h.1 ∙ signed_part t plain)
    ∙ sym (chosen _ _ (signed_value t)
    (numeral_from _ (subst (IsNumeral 10) (unsigned_part t plain) h.0.0))
    (fits_from _ (subst (FitsSigned w64) (signed_part t plain) h.0.1)))
parsed_is t (Err e) plain h =
    sym (not_chosen _ _ (signed_value t)
    (λ p q. h (subst (IsNumeral 10) (sym (unsigned_part t plain)) (numeral_to _ p), subst (FitsSigned w64) (sym (signed_part t plain)) (fits_to _ q))))

ascii_cons : (b : ℕ) (bs : List ℕ) → b < 128 → IsAscii bs → IsAscii (b ∷ bs)
ascii_cons b bs h k zero = h
ascii_cons b bs h k (suc i) = k i

ascii_part : (t : List ℕ) → IsAscii (digits_part t) → IsAscii t
ascii_part [] h = h
ascii_part (b ∷ bs) h =
    elim (eqb b 45) as (λ m. eqb b 45 ≡ m → IsAscii (drop (cond m 1 0) (b ∷ bs)) → IsAscii (b ∷ bs)) [
      | true ↦ λ e k. ascii_cons b bs (grind (arith, nat_tests)) k
      | false ↦ λ e k. k
    ] refl h

-- a text that writes a number is ASCII
pub no_number : (t : List ℕ) → (IsUtf8 t → ⊥) → number_in t ≡ None
no_number t h =
    not_chosen _ _ (signed_value t)
    (λ p q. h (IsUtf8-from_ascii t (ascii_part t (IsAscii-from_digits _ (numeral_to _ p).1))))

-- a text that does not begin with `+`
pub not_plus : (t : List ℕ) → pointwise nat_eq (43 ∷ []) (take 1 t) ≡ false → get_or t 0 0 ≢ 43
not_plus [] e h = absurd (omega arith)
not_plus (b ∷ bs) e h = grind (arith, nat_tests)
