-- Which bytes are of which kind.
use Rattle.std.proofs.Common.{◌≡◌, ◌≢◌, ℕ, ◌+◌, ◌*◌, ◌<◌, ◌≤◌, suc, zero, Bool, true, false, List, [], ◌∷◌, ◌++◌, refl, sym, subst, arith, ◌==◌, nat_le, nat_lt, ◌⊎◌, inl, inr, true≢false, Some}
use Rattle.std.proofs.lemmas.Bool.Decides.{nat_tests}
use Rattle.std.specs.Char.{is_ascii_digit, is_ascii_alphabetic, digit_value}
use Rattle.std.specs.Int.{w64}
use Rattle.std.specs.Prelude.{FitsSigned}
use Rattle.std.specs.List.{list_all}
use Rattle.std.specs.Str.Parse.{digits_value_after}
use Rattle.std.proofs.lemmas.Bool.{and_parts}
use Rattle.kl_base.specs.Word.{is_word, is_word_byte}
use Rattle.kl_value.specs.Quoted.{escape_of}
use Rattle.kl_exchange.specs.Grammar.{is_blank, signed}
use Rattle.kl_exchange.specs.Machine.{greatest_magnitude}

pub digit_is : (b : ℕ) → digit_value b < 10 → is_ascii_digit b ≡ true
digit_is b h = grind (arith, nat_tests)

pub digit_below : (b : ℕ) → is_ascii_digit b ≡ true → digit_value b < 10
digit_below b h = grind (arith, nat_tests)

pub digit_not_blank : (b : ℕ) → digit_value b < 10 → is_blank b ≡ false
digit_not_blank b h = grind (arith, nat_tests)

-- a blank is one of four bytes
pub blank_is : (b : ℕ) → is_blank b ≡ true → (b ≡ 9) ⊎ ((b ≡ 10) ⊎ ((b ≡ 13) ⊎ (b ≡ 32)))
blank_is b h = grind (arith, nat_tests)

pub blank_at : (P : ℕ → Type 0) → P 9 → P 10 → P 13 → P 32 → (b : ℕ) → is_blank b ≡ true → P b
blank_at P a c d e b h =
    elim (blank_is b h) [
      | inl is ↦ subst P (sym is) a
      | inr (inl is) ↦ subst P (sym is) c
      | inr (inr (inl is)) ↦ subst P (sym is) d
      | inr (inr (inr is)) ↦ subst P (sym is) e
    ]

pub blank_not_digit : (b : ℕ) → is_blank b ≡ true → is_ascii_digit b ≡ false
blank_not_digit = blank_at (λ b. is_ascii_digit b ≡ false) refl refl refl refl

pub blank_not_word : (b : ℕ) → is_blank b ≡ true → is_word_byte b ≡ false
blank_not_word = blank_at (λ b. is_word_byte b ≡ false) refl refl refl refl

pub blank_not_bar : (b : ℕ) → is_blank b ≡ true → (b == 124) ≡ false
blank_not_bar = blank_at (λ b. (b == 124) ≡ false) refl refl refl refl

pub letter_not_blank : (b : ℕ) → is_ascii_alphabetic b ≡ true → is_blank b ≡ false
letter_not_blank b h = grind (arith, nat_tests)

pub letter_not_bar : (b : ℕ) → is_ascii_alphabetic b ≡ true → (b == 124) ≡ false
letter_not_bar b h = grind (arith, nat_tests)

pub letter_not_close : (b : ℕ) → is_ascii_alphabetic b ≡ true → (b == 93) ≡ false
letter_not_close b h = grind (arith, nat_tests)

pub not_equal : (b c : ℕ) → b ≢ c → (b == c) ≡ false
not_equal b c h = grind (arith, nat_tests)

pub equal : (b c : ℕ) → (b == c) ≡ true → b ≡ c
equal b c h = grind (arith, nat_tests)

pub at_most : (a b : ℕ) → a ≤ b → nat_le a b ≡ true
at_most a b h = grind (arith, nat_tests)

pub below : (a b : ℕ) → a < b → nat_lt a b ≡ true
below a b h = grind (arith, nat_tests)

-- numbers
pub after_ge : (n : ℕ) (ds : List ℕ) → n ≤ digits_value_after 10 n ds
after_ge n [] = omega arith
after_ge n (d ∷ ds) = omega (arith, after_ge (n * 10 + digit_value d) ds)

pub fits_magnitude : (negative : Bool) (n : ℕ) → FitsSigned w64 (signed negative n) → n ≤ greatest_magnitude negative
fits_magnitude true zero fits = omega arith
fits_magnitude true (suc n) fits = let small = fits.sfits in omega arith
fits_magnitude false n fits = let small = fits.sfits in omega arith

pub magnitude_fits : (negative : Bool) (n : ℕ) → n ≤ greatest_magnitude negative → FitsSigned w64 (signed negative n)
magnitude_fits true zero most = record { sfits = omega arith }
magnitude_fits true (suc n) most = record { sfits = omega arith }
magnitude_fits false n most = record { sfits = omega arith }

-- words

pub all_push : (t : ℕ → Bool) (bs : List ℕ) (b : ℕ) → list_all t bs ≡ true → t b ≡ true → list_all t (bs ++ b ∷ []) ≡ true
all_push t [] b all one = rw one
all_push t (c ∷ bs) b all one = let both = and_parts (t c) (list_all t bs) all in rw (both.0, all_push t bs b both.1 one)

pub word_push : (l : List ℕ) (b : ℕ) → is_word l ≡ true → is_word_byte b ≡ true → is_word (l ++ b ∷ []) ≡ true
word_push [] b word one = absurd (true≢false (sym word))
word_push (c ∷ l) b word one = let both = and_parts (is_ascii_alphabetic c) (list_all is_word_byte l) word in rw (both.0, all_push is_word_byte l b both.1 one)

pub escape_not_x : (b c : ℕ) → escape_of b ≡ Some c → (b == 120) ≡ false
escape_not_x b c e = is_x (b == 120) refl
  where
    is_x : (t : Bool) → (b == 120) ≡ t → t ≡ false
    is_x true h = let none : escape_of 120 ≡ Some c = subst (λ a. escape_of a ≡ Some c) (equal b 120 h) e in cc
    is_x false h = refl

-- the first byte of a value: it is neither blank nor one that closes a bracket
pub record IsFirst (b : ℕ) : Type 0 where
  pub no_blank : is_blank b ≡ false
  pub no_bar : (b == 124) ≡ false
  pub no_brace : (b == 125) ≡ false

pub first_digit_is : (b : ℕ) → digit_value b < 10 → IsFirst b
first_digit_is b h = record { no_blank = digit_not_blank b h; no_bar = grind (arith, nat_tests); no_brace = grind (arith, nat_tests) }

pub lt_from : (a b : ℕ) → nat_lt a b ≡ true → a < b
lt_from a b h = grind (arith, nat_tests)

pub le_from : (a b : ℕ) → nat_lt a b ≡ false → b ≤ a
le_from a b h = grind (arith, nat_tests)

pub at_most_from : (a b : ℕ) → nat_le a b ≡ true → a ≤ b
at_most_from a b h = grind (arith, nat_tests)

pub unequal : (b c : ℕ) → (b == c) ≡ false → b ≢ c
unequal b c h = grind (arith, nat_tests)
