-- The descent over bytes: for each word of the grammar a reader.
-- No public contract cites this.
use Rattle.std.specs.Prelude.{ℕ, ◌+◌, ◌*◌, nat_le, nat_lt, Bool, true, false, not, ◌==◌, ◌&&◌, if◌then◌else◌}
use Rattle.std.specs.Prelude.{List, [], ◌∷◌, ◌++◌, Option, Some, None, ◌⊎◌}
use Rattle.std.specs.Char.{digit_value, is_ascii_alphabetic}
use Rattle.kl_base.specs.Word.{is_word_byte}
use Rattle.std.proofs.Common.{inl, inr}
use Rattle.kl_phrase.specs.Words.{list_of}
use Rattle.kl_phrase.specs.Readers.{Reader, ok, fail, bad, one, nothing, behind, before, both, made, pick, chain, only, loop}
use Rattle.kl_sqltext.specs.declared.ast.SqlOp.{SqlOp}
use Rattle.kl_sqltext.specs.declared.ast.SqlOp.TheVariants as op
use Rattle.kl_sqltext.specs.Words.{is_blank}

-- ---- bytes one by one, as long as the state that they come to lets them

module _ {A : Type 0} (may : A → ℕ → Bool) (step : A → ℕ → A) where
  abbrev pub run : A → Reader ℕ A
  run a [] = ok a []
  run a (t ∷ ts) = if may a t then run (step a t) ts else ok a (t ∷ ts)

-- ---- one byte

abbrev pub a_byte : ℕ → ℕ → Option (Unit {0})
a_byte c t = only (t == c)

abbrev pub mark : ℕ → Reader ℕ (Unit {0})
mark c = one (a_byte c)

abbrev pub code : List ℕ → Reader ℕ (Unit {0})
code [] = nothing tt
code (c ∷ cs) = behind (mark c) (code cs)

-- the bytes of the front that pass a test
abbrev pub span : (ℕ → Bool) → Reader ℕ (List ℕ)
span test = run (λ s t. test t) (λ s t. s ++ t ∷ []) []

abbrev pub gap : Reader ℕ (Unit {0})
gap = run (λ _ t. is_blank t) (λ _ t. tt) tt

abbrev pub a_blank : ℕ → Option (Unit {0})
a_blank t = only (is_blank t)

abbrev pub space : Reader ℕ (Unit {0})
space = behind (one a_blank) gap

-- whether there is some
abbrev pub yes : Unit {0} → Bool
yes x = true

abbrev pub gaps : Reader ℕ Bool
gaps = pick is_blank (made yes space) (nothing false)

abbrev pub passing : (ℕ → Bool) → ℕ → Option ℕ
passing test t = if test t then Some t else None

abbrev pub word : Reader ℕ (List ℕ)
word = made list_of (both (one (passing is_ascii_alphabetic)) (span is_word_byte))

abbrev pub named : Reader ℕ (List ℕ)
named = behind (mark 34) (before word (mark 34))

-- digits as long as the number is no greater
abbrev pub is_digit : ℕ → Bool
is_digit t = nat_lt (digit_value t) 10

abbrev pub lets : ℕ → ℕ → ℕ → Bool
lets limit k t = is_digit t && nat_le (k * 10 + digit_value t) limit

abbrev pub with_digit : ℕ → ℕ → ℕ
with_digit k t = k * 10 + digit_value t

abbrev pub digits : ℕ → ℕ → Reader ℕ ℕ
digits limit = run (lets limit) with_digit

abbrev pub a_digit : (ℕ → Bool) → ℕ → Option ℕ
a_digit test t = if test t then Some (digit_value t) else None

abbrev pub natural : ℕ → Reader ℕ ℕ
natural limit = chain (one (a_digit is_digit)) (digits limit)

abbrev pub is_zero : ℕ → Bool
is_zero t = t == 48

abbrev pub is_more : ℕ → Bool
is_more t = is_digit t && nat_lt 0 (digit_value t)

abbrev pub zeroth : Unit {0} → ℕ
zeroth x = 0

abbrev pub place : Reader ℕ ℕ
place = pick is_zero (made zeroth (mark 48)) (chain (one (a_digit is_more)) (digits 9999))

-- ---- texts

abbrev pub is : ℕ → ℕ → Bool
is c t = t == c

abbrev pub a_quote : Unit {0} → ℕ ⊎ Unit {0}
a_quote x = inl 39

abbrev pub no_quote : ℕ → Bool
no_quote t = not (t == 39)

-- one byte of a text, or its last quote
abbrev pub part : Reader ℕ (ℕ ⊎ Unit {0})
part = pick (is 39) (behind (mark 39) (pick (is 39) (made a_quote (mark 39)) (nothing (inr (tt {0}))))) (made inl (one (passing no_quote)))

abbrev pub inside : List ℕ × Unit {0} → List ℕ
inside x = x.0

abbrev pub text : Reader ℕ (List ℕ)
text = behind (mark 39) (made inside (loop part))

-- ---- behind white space

abbrev pub never : {A : Type 0} → Reader ℕ A
never ts = fail bad ts

abbrev pub after_gap : {A : Type 0} → (ℕ → Bool) → Reader ℕ A → Reader ℕ A → Bool → Reader ℕ A
after_gap test i k true = pick test i k
after_gap test i k false = pick test i never

-- i, which begins with such a byte, behind any white space, or k, which does not, behind some
abbrev pub gapped : {A : Type 0} → (ℕ → Bool) → Reader ℕ A → Reader ℕ A → Reader ℕ A
gapped test i k = chain gaps (after_gap test i k)

-- ---- comparisons

abbrev pub is_op : Unit {0} → SqlOp
is_op x = op.Eq

abbrev pub ne_op : Unit {0} → SqlOp
ne_op x = op.Ne

abbrev pub le_op : Unit {0} → SqlOp
le_op x = op.Le

abbrev pub ge_op : Unit {0} → SqlOp
ge_op x = op.Ge

abbrev pub below_op : Reader ℕ SqlOp
below_op = pick (is 62) (made ne_op (mark 62)) (pick (is 61) (made le_op (mark 61)) (nothing op.Lt))

abbrev pub above_op : Reader ℕ SqlOp
above_op = pick (is 61) (made ge_op (mark 61)) (nothing op.Gt)

abbrev pub an_op : Reader ℕ SqlOp
an_op = pick (is 61) (made is_op (mark 61)) (pick (is 60) (behind (mark 60) below_op) (behind (mark 62) above_op))
