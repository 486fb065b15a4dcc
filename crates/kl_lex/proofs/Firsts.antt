-- The first byte tells what a lexeme is.
use Rattle.std.proofs.Common.{◌≡◌, ◌≢◌, ℕ, ◌≤◌, Bool, true, false, cond, eqb, List, [], ◌∷◌, ◌++◌, get_or, ◌⊎◌, inl, inr, ◌||◌, IsTrue, refl, sym, ap, subst, ◌∙◌, arith}
use Rattle.std.proofs.lemmas.Bool.{and_parts, ne_eqb, false_from_ne_true}
use Rattle.std.proofs.lemmas.Bool.Decides.{nat_tests}
use Rattle.std.specs.Char.{is_ascii_alphabetic, is_ascii_digit}
use Rattle.std.specs.List.{list_all}
use Rattle.std.specs.Prelude.{nat_eq}
use Rattle.std.specs.Cmp.Lexicographic.{pointwise}
use Rattle.kl_base.specs.Word.{is_word, is_word_byte}
use Rattle.kl_lex.specs.declared.token.Sym.{Sym as Symbol}
use Rattle.kl_lex.specs.declared.token.Sym.TheVariants.{OpenList, CloseList, OpenBag, CloseBag, OpenSet, CloseSet, OpenRec, CloseRec, OpenPar, ClosePar, Le, Ge, Ne, Draw, Lt, Gt, Equals, Arrow, Eq, Bar, Comma, Semi, Dots, Dot, Colon, Append, Add, Sub, Mul, Cat, Bind, Any}
use Rattle.kl_lex.specs.Blank.{is_white, hash, IsDue}
use Rattle.kl_value.specs.Quoted.{quote}
use Rattle.kl_lex.specs.Spelling.{spelling, IsNumber, Lexeme, word, number, text, symbol, SpellsText}

-- what begins with the byte: 0 a word, 1 a number, 2 a text, 3 a symbol or nothing, 4 white space or a comment
unfoldable pub sort_by : Bool → Bool → Bool → Bool → ℕ
sort_by true d q w = 0
sort_by false true q w = 1
sort_by false false true w = 2
sort_by false false false true = 4
sort_by false false false false = 3

unfoldable pub sort : ℕ → ℕ
sort b = sort_by (is_ascii_alphabetic b) (is_ascii_digit b) (eqb b quote) (is_white b || eqb b hash)

-- the byte at the front, or 0
abbrev pub first : List ℕ → ℕ
first u = get_or u 0 0

pub letter_sort : (b : ℕ) → is_ascii_alphabetic b ≡ true → sort b ≡ 0
unfolding sort sort_by
letter_sort b h = rw h

-- a digit is no letter
digit_letter : (b : ℕ) → is_ascii_digit b ≡ true → is_ascii_alphabetic b ≡ false
digit_letter b h = grind (arith, nat_tests)

pub digit_sort : (b : ℕ) → is_ascii_digit b ≡ true → sort b ≡ 1
unfolding sort sort_by
digit_sort b h = let k = digit_letter b h in rw (k, h)

pub quote_sort : sort quote ≡ 2
unfolding sort sort_by
quote_sort = refl

pub other_sort : (b : ℕ) → is_ascii_alphabetic b ≡ false → is_ascii_digit b ≡ false → b ≢ quote → 3 ≤ sort b
unfolding sort sort_by
other_sort b h k n = rw (h, k, ne_eqb b quote n) (by_white (is_white b || eqb b hash))
  where
    by_white : (w : Bool) → 3 ≤ sort_by false false false w
    by_white true = omega arith
    by_white false = omega arith

white_cases : (b : ℕ) → is_white b ≡ true → (b ≡ 9) ⊎ ((b ≡ 10) ⊎ ((b ≡ 13) ⊎ (b ≡ 32)))
white_cases b h = grind (arith, nat_tests)

white_sort : (b : ℕ) → is_white b ≡ true → sort b ≡ 4
unfolding sort sort_by
white_sort b h = elim (white_cases b h) [ inl e ↦ ap sort e | inr (inl e) ↦ ap sort e | inr (inr (inl e)) ↦ ap sort e | inr (inr (inr e)) ↦ ap sort e ]

pub word_sort : (u : List ℕ) → IsTrue (is_word u) → sort (first u) ≡ 0
word_sort [] h = absurd (let k : false ≡ true = h in cc)
word_sort (b ∷ w) h = letter_sort b (and_parts (is_ascii_alphabetic b) (list_all is_word_byte w) h).0

pub number_sort : (u : List ℕ) → IsNumber u → sort (first u) ≡ 1
number_sort [] h = absurd (h.0 refl)
number_sort (b ∷ w) h = digit_sort b (and_parts (is_ascii_digit b) (list_all is_ascii_digit w) h.1).0

pub text_sort : (meant u : List ℕ) → SpellsText meant u → sort (first u) ≡ 2
unfolding sort sort_by
text_sort meant u (inside, e, h) = rw e refl

pub symbol_sort : (s : Symbol) → sort (first (spelling s)) ≡ 3
unfolding sort sort_by
symbol_sort OpenList = refl
symbol_sort _ = refl

-- ---- what a lexeme is, by its first byte

pub lexeme_full : (u : List ℕ) → Lexeme u → u ≢ []
lexeme_full u (word h) e = let k : IsTrue (is_word []) = subst (λ (z : List ℕ). IsTrue (is_word z)) e h in absurd (let q : false ≡ true = k in cc)
lexeme_full u (number h) e = h.0 e
lexeme_full u (text meant (inside, k, h)) e = absurd (let q : [] ≡ quote ∷ (inside ++ quote ∷ []) = sym e ∙ k in cc)
lexeme_full u (symbol s k) e = symbol_full s (sym k ∙ e)
  where
    symbol_full : (s : Symbol) → spelling s ≢ []
    symbol_full OpenList e = absurd cc
    symbol_full _ e = absurd cc

pub lexeme_sort : (u : List ℕ) → Lexeme u → sort (first u) ≤ 3
lexeme_sort u (word h) = omega (arith, word_sort u h)
lexeme_sort u (number h) = omega (arith, number_sort u h)
lexeme_sort u (text meant h) = omega (arith, text_sort meant u h)
lexeme_sort u (symbol s k) = subst (λ (z : List ℕ). sort (first z) ≤ 3) (sym k) (omega (arith, symbol_sort s))

pub only_word : (u : List ℕ) → Lexeme u → sort (first u) ≡ 0 → IsTrue (is_word u)
only_word u (word h) e = h
only_word u (number h) e = absurd (omega (arith, number_sort u h))
only_word u (text meant h) e = absurd (omega (arith, text_sort meant u h))
only_word u (symbol s k) e = absurd (omega (arith, symbol_sort s, ap (λ (z : List ℕ). sort (first z)) k))

pub only_number : (u : List ℕ) → Lexeme u → sort (first u) ≡ 1 → IsNumber u
only_number u (word h) e = absurd (omega (arith, word_sort u h))
only_number u (number h) e = h
only_number u (text meant h) e = absurd (omega (arith, text_sort meant u h))
only_number u (symbol s k) e = absurd (omega (arith, symbol_sort s, ap (λ (z : List ℕ). sort (first z)) k))

pub only_text : (u : List ℕ) → Lexeme u → sort (first u) ≡ 2 → (meant : List ℕ) × SpellsText meant u
only_text u (word h) e = absurd (omega (arith, word_sort u h))
only_text u (number h) e = absurd (omega (arith, number_sort u h))
only_text u (text meant h) e = (meant, h)
only_text u (symbol s k) e = absurd (omega (arith, symbol_sort s, ap (λ (z : List ℕ). sort (first z)) k))

pub only_symbol : (u : List ℕ) → Lexeme u → 3 ≤ sort (first u) → (s : Symbol) × (u ≡ spelling s)
only_symbol u (word h) e = absurd (omega (arith, word_sort u h))
only_symbol u (number h) e = absurd (omega (arith, number_sort u h))
only_symbol u (text meant h) e = absurd (omega (arith, text_sort meant u h))
only_symbol u (symbol s k) e = (s, k)

not_hash : (b : ℕ) → b ≡ hash → sort b ≤ 3 → ⊥
unfolding sort sort_by
not_hash b e k = let j : 4 ≤ 3 = subst (λ (z : ℕ). sort z ≤ 3) e k in omega arith

-- a lexeme is due
pub lexeme_due : (u rest : List ℕ) → Lexeme u → IsDue (u ++ rest)
lexeme_due [] rest l = absurd (lexeme_full [] l refl)
lexeme_due (b ∷ w) rest l =
    let k = lexeme_sort (b ∷ w) l in
    (false_from_ne_true (is_white b) (λ h. let e = white_sort b h in absurd (omega arith)), λ e. not_hash b e k)

-- the lexeme at a front begins as the bytes do
pub same_first : (bytes u rest : List ℕ) → Lexeme u → bytes ≡ u ++ rest → first u ≡ first bytes
same_first bytes [] rest l e = absurd (lexeme_full [] l refl)
same_first bytes (b ∷ w) rest l e = ap first (sym e)

-- ---- a symbol by its spelling

all : List Symbol
all = OpenList ∷ CloseList ∷ OpenBag ∷ CloseBag ∷ OpenSet ∷ CloseSet ∷ OpenRec ∷ CloseRec ∷ OpenPar ∷ ClosePar ∷ Le ∷ Ge ∷ Ne ∷ Draw ∷ Lt ∷ Gt ∷ Equals ∷ Arrow ∷ Eq ∷ Bar ∷ Comma ∷ Semi ∷ Dots ∷ Dot ∷ Colon ∷ Append ∷ Add ∷ Sub ∷ Mul ∷ Cat ∷ Bind ∷ Any ∷ []

among : List Symbol → List ℕ → Symbol
among [] u = OpenList
among (s ∷ ss) u = cond (pointwise nat_eq (spelling s) u) s (among ss u)

among_spelling : (s : Symbol) → among all (spelling s) ≡ s
unfolding among all
among_spelling OpenList = refl
among_spelling _ = refl

pub one_symbol : (s t : Symbol) → spelling s ≡ spelling t → s ≡ t
one_symbol s t e = sym (among_spelling s) ∙ ap (among all) e ∙ among_spelling t
