-- What each part of the lexer reads is the longest lexeme.
use Rattle.std.proofs.Common.{◌≡◌, ◌≢◌, ℕ, zero, suc, ◌+◌, ◌-◌, ◌*◌, ◌<◌, ◌≤◌, Bool, true, false, cond, List, [], ◌∷◌, ◌++◌, length, take, get_or, IsTrue, refl, sym, ap, subst, ◌∙◌, arith, Some, None, append_assoc}
use Rattle.std.proofs.lemmas.Bool.{and_parts, and_from}
use Rattle.std.proofs.lemmas.Bool.Decides.{nat_tests}
use Rattle.std.proofs.lemmas.List.Sums.{take_while-cons}
use Rattle.std.proofs.lemmas.List.Folds.{length-prefix_len}
use Rattle.std.specs.Char.{is_ascii_alphabetic, is_ascii_digit}
use Rattle.std.specs.List.{list_all, prefix_len, take_while}
use Rattle.std.specs.Int.{IsInRange}
use Rattle.std.specs.Str.Parse.{digits_value}
use Rattle.std.proofs.lemmas.Str.{digit_value_digit}
use Rattle.std.proofs.lemmas.Str.Parse.{digits_value-take-le}
use Rattle.std.proofs.lemmas.Int.Digits.{digits_value_more}
use Rattle.kl_base.specs.Word.{is_word, is_word_byte, label_of}
use Rattle.kl_lex.specs.declared.token.Sym.{Sym as Symbol}
use Rattle.kl_lex.specs.declared.token.Tok.{Tok}
use Rattle.kl_lex.specs.declared.token.Tok.TheVariants.{Word, Int, Big, Text, Sym}
use Rattle.kl_value.specs.Quoted.{Parts, quote}
use Rattle.kl_lex.specs.Spelling.{spelling, IsNumber, int_max, Lexeme, word, number, text, symbol, Spelled, SpellsText}
use Rattle.kl_lex.specs.Lexing.{Longest, Starts, NoneStarts}
use Rattle.kl_lex.specs.Reading.{Closes, LongestSymbol, HasValue}
use Rattle.kl_lex.proofs.Firsts.{first, sort, letter_sort, digit_sort, word_sort, number_sort, text_sort, symbol_sort, quote_sort, lexeme_full, only_word, only_number, only_text, only_symbol, same_first, one_symbol}
use Rattle.kl_lex.proofs.Inside.{one_inside, one_text}

-- ---- two longest lexemes are one

same_front : (u v r s : List ℕ) → length u ≡ length v → u ++ r ≡ v ++ s → (u ≡ v) × (r ≡ s)
same_front [] [] r s e h = (refl, h)
same_front [] (y ∷ v) r s e h = absurd (omega arith)
same_front (x ∷ u) [] r s e h = absurd (omega arith)
same_front (x ∷ u) (y ∷ v) r s e h =
    let k : u ++ r ≡ v ++ s = cc in
    let xy : x ≡ y = cc in
    let z = same_front u v r s (omega arith) k in
    (cc, z.1)

pub one_longest : (bytes u v r s : List ℕ) → Longest bytes u r → Longest bytes v s → (u ≡ v) × (r ≡ s)
one_longest bytes u v r s l m =
    let a = l.longest v s m.parts m.one in
    let b = m.longest u r l.parts l.one in
    same_front u v r s (omega arith) (sym l.parts ∙ m.parts)

-- where the longest lexeme spells no token, none starts
pub unspelled : (bytes u r : List ℕ) → Longest bytes u r → ((w : Tok) → Spelled w u → ⊥) → NoneStarts bytes
unspelled bytes u r l never what rest s =
    let same = one_longest bytes s.lexeme u rest r s.longest l in
    never what (subst (λ (z : List ℕ). Spelled what z) same.0 s.spelled)

-- ---- runs

run_passes : (p : ℕ → Bool) (xs : List ℕ) → list_all p (take_while p xs) ≡ true
run_passes p [] = refl
run_passes p (x ∷ xs) = rw (take_while-cons p x xs) (step (run_passes p xs) (p x) refl)
  where
    step : list_all p (take_while p xs) ≡ true → (c : Bool) → p x ≡ c → list_all p (cond c (x ∷ take_while p xs) []) ≡ true
    step h true e = and_from (p x) (list_all p (take_while p xs)) e h
    step h false e = refl

run_covers : (p : ℕ → Bool) (v r : List ℕ) → list_all p v ≡ true → length v ≤ prefix_len p (v ++ r)
run_covers p [] r h = omega arith
run_covers p (b ∷ v) r h =
    let q = and_parts (p b) (list_all p v) h in
    let k = run_covers p v r q.1 in
    rw q.0 (omega arith)

run_longest : (p : ℕ → Bool) (bytes v r : List ℕ) → bytes ≡ v ++ r → list_all p v ≡ true → length v ≤ length (take_while p bytes)
run_longest p bytes v r e h =
    let k : length v ≤ prefix_len p bytes = subst (λ (z : List ℕ). length v ≤ prefix_len p z) (sym e) (run_covers p v r h) in
    omega (arith, length-prefix_len p bytes)

-- ---- words

letter_in_word : (b : ℕ) → is_ascii_alphabetic b ≡ true → is_word_byte b ≡ true
letter_in_word b h = grind (arith, nat_tests)

word_bytes : (u : List ℕ) → IsTrue (is_word u) → list_all is_word_byte u ≡ true
word_bytes [] h = refl
word_bytes (b ∷ w) h =
    let q = and_parts (is_ascii_alphabetic b) (list_all is_word_byte w) h in
    and_from (is_word_byte b) (list_all is_word_byte w) (letter_in_word b q.0) q.1

pub word_run : (bytes : List ℕ) → is_ascii_alphabetic (first bytes) ≡ true → IsTrue (is_word (take_while is_word_byte bytes))
word_run [] h = absurd (let k : false ≡ true = h in cc)
word_run (b ∷ bs) h =
    rw (take_while-cons is_word_byte b bs, letter_in_word b h)
    (and_from (is_ascii_alphabetic b) (list_all is_word_byte (take_while is_word_byte bs)) h (run_passes is_word_byte bs))

label_is : (u : List ℕ) → IsTrue (is_word u) → label_of u ≡ Some u
label_is u h = rw h refl

pub word_starts : (bytes u r : List ℕ) → is_ascii_alphabetic (first bytes) ≡ true → u ≡ take_while is_word_byte bytes → bytes ≡ u ++ r → Starts bytes (Word u) r
word_starts bytes u r h e parts =
    let one : IsTrue (is_word u) = subst (λ (z : List ℕ). IsTrue (is_word z)) (sym e) (word_run bytes h) in
    record {
      lexeme = u;
      longest = record {
        parts = parts;
        one = word one;
        longest = λ v s f l.
            let k : sort (first v) ≡ 0 = ap sort (same_first bytes v s l f) ∙ letter_sort (first bytes) h in
            let m = run_longest is_word_byte bytes v s f (word_bytes v (only_word v l k)) in
            omega (arith, ap length e);
      };
      spelled = (one, refl);
    }

-- the label of a word
pub word_labelled : (bytes u r label : List ℕ) → is_ascii_alphabetic (first bytes) ≡ true → u ≡ take_while is_word_byte bytes → bytes ≡ u ++ r → Some label ≡ label_of u → Starts bytes (Word label) r
word_labelled bytes u r label h e parts l =
    let one : IsTrue (is_word u) = subst (λ (z : List ℕ). IsTrue (is_word z)) (sym e) (word_run bytes h) in
    let k : Some label ≡ Some u = l ∙ label_is u one in
    let same : label ≡ u = cc in
    subst (λ (z : List ℕ). Starts bytes (Word z) r) (sym same) (word_starts bytes u r h e parts)

-- and there is one
pub word_has_label : (bytes u : List ℕ) → is_ascii_alphabetic (first bytes) ≡ true → u ≡ take_while is_word_byte bytes → None ≡ label_of u → ⊥
word_has_label bytes u h e l =
    let one : IsTrue (is_word u) = subst (λ (z : List ℕ). IsTrue (is_word z)) (sym e) (word_run bytes h) in
    let k : None ≡ Some u = l ∙ label_is u one in
    cc

-- ---- numbers

pub passes_at : (p : ℕ → Bool) (xs : List ℕ) (i : ℕ) → list_all p xs ≡ true → i < length xs → p (get_or xs i 0) ≡ true
passes_at p [] i h lt = absurd (omega arith)
passes_at p (x ∷ xs) zero h lt = (and_parts (p x) (list_all p xs) h).0
passes_at p (x ∷ xs) (suc i) h lt = passes_at p xs i (and_parts (p x) (list_all p xs) h).1 (omega arith)

digit_range : (b : ℕ) → is_ascii_digit b ≡ true → IsInRange 48 57 b
digit_range b h = grind (arith, nat_tests)

-- a digit more
pub value_more : (ds : List ℕ) (i : ℕ) → IsTrue (list_all is_ascii_digit ds) → i < length ds → (digits_value 10 (take (i + 1) ds) ≡ digits_value 10 (take i ds) * 10 + (get_or ds i 0 - 48)) × (digits_value 10 (take (i + 1) ds) ≤ digits_value 10 ds)
value_more ds i h lt =
    let d = digit_value_digit (get_or ds i 0) (digit_range (get_or ds i 0) (passes_at is_ascii_digit ds i h lt)) in
    (omega (arith, digits_value_more 10 ds i lt), digits_value-take-le 10 ds (i + 1) (omega arith))

pub number_longest : (bytes u r : List ℕ) → is_ascii_digit (first bytes) ≡ true → u ≡ take_while is_ascii_digit bytes → bytes ≡ u ++ r → IsNumber u × Longest bytes u r
number_longest bytes u r h e parts =
    let one : IsNumber u = (number_full bytes u r h e parts, subst (λ (z : List ℕ). IsTrue (list_all is_ascii_digit z)) (sym e) (run_passes is_ascii_digit bytes)) in (
      one,
      record {
        parts = parts;
        one = number one;
        longest = λ v s f l.
            let k : sort (first v) ≡ 1 = ap sort (same_first bytes v s l f) ∙ digit_sort (first bytes) h in
            let m = run_longest is_ascii_digit bytes v s f (only_number v l k).1 in
            omega (arith, ap length e);
      },
    )
  where
    number_full : (bytes u r : List ℕ) → is_ascii_digit (first bytes) ≡ true → u ≡ take_while is_ascii_digit bytes → bytes ≡ u ++ r → u ≢ []
    number_full [] u r h e parts z = absurd (let k : false ≡ true = h in cc)
    number_full (b ∷ bs) u r h e parts z =
        let k : length u ≡ length (cond (is_ascii_digit b) (b ∷ take_while is_ascii_digit bs) []) = ap length (e ∙ take_while-cons is_ascii_digit b bs) in
        let j : length u ≡ length (b ∷ take_while is_ascii_digit bs) = rw h at k in
        omega (arith, ap length z)

pub number_spelled : (what : Tok) (u : List ℕ) → IsNumber u → HasValue (digits_value 10 u) what → Spelled what u
number_spelled (Int n) u one h = (one, h.0, h.1)
number_spelled Big u one h = (one, h)
number_spelled (Word w) u one h = absurd h
number_spelled (Text m) u one h = absurd h
number_spelled (Sym s) u one h = absurd h

pub number_unspelled : (u : List ℕ) → IsNumber u → int_max + 1 < digits_value 10 u → (w : Tok) → Spelled w u → ⊥
number_unspelled u one lt (Int n) h = omega (arith, h.1)
number_unspelled u one lt Big h = omega (arith, h.1)
number_unspelled u one lt (Word w) h = omega (arith, number_sort u one, word_sort u h.0)
number_unspelled u one lt (Text m) h = omega (arith, number_sort u one, text_sort m u h)
number_unspelled u one lt (Sym s) h = omega (arith, number_sort u one, symbol_sort s, ap (λ (z : List ℕ). sort (first z)) h)

-- ---- texts

pub text_starts : (bs meant rest : List ℕ) → Closes bs meant rest → Starts (quote ∷ bs) (Text meant) rest
text_starts bs meant rest (inside, e, h) =
    let one : SpellsText meant (quote ∷ (inside ++ quote ∷ [])) = (inside, refl, h) in
    record {
      lexeme = quote ∷ (inside ++ quote ∷ []);
      longest = record {
        parts = ap (λ (z : List ℕ). quote ∷ z) (e ∙ sym (append_assoc inside (quote ∷ []) rest));
        one = text meant one;
        longest = λ v s f l. longest_text bs meant rest inside e h v s f (only_text v l (ap sort (same_first (quote ∷ bs) v s l f) ∙ quote_sort));
      };
      spelled = one;
    }
  where
    longest_text : (bs meant rest inside : List ℕ) → bs ≡ inside ++ quote ∷ rest → Parts meant inside → (v s : List ℕ) → quote ∷ bs ≡ v ++ s → (n : List ℕ) × SpellsText n v → length v ≤ length (quote ∷ (inside ++ quote ∷ []))
    longest_text bs meant rest inside e h v s f (n, (w, g, k)) =
        let z : quote ∷ bs ≡ (quote ∷ (w ++ quote ∷ [])) ++ s = f ∙ ap (λ (x : List ℕ). x ++ s) g in
        let y : bs ≡ (w ++ quote ∷ []) ++ s = cc in
        let same = (one_inside meant n inside w rest s h k (sym e ∙ y ∙ append_assoc w (quote ∷ []) s)).1 in
        let same_length : length (quote ∷ (w ++ quote ∷ [])) ≡ length (quote ∷ (inside ++ quote ∷ [])) = ap (λ (x : List ℕ). length (quote ∷ (x ++ quote ∷ []))) (sym same) in
        omega (arith, ap length g, same_length)

pub text_none : (bs : List ℕ) → ((meant rest : List ℕ) → Closes bs meant rest → ⊥) → NoneStarts (quote ∷ bs)
text_none bs never what rest s =
    no_text bs never s.lexeme rest s.longest.parts (only_text s.lexeme s.longest.one (ap sort (same_first (quote ∷ bs) s.lexeme rest s.longest.one s.longest.parts) ∙ quote_sort))
  where
    no_text : (bs : List ℕ) → ((meant rest : List ℕ) → Closes bs meant rest → ⊥) → (u rest : List ℕ) → quote ∷ bs ≡ u ++ rest → (n : List ℕ) × SpellsText n u → ⊥
    no_text bs never u rest f (n, (w, g, k)) =
        let z : quote ∷ bs ≡ (quote ∷ (w ++ quote ∷ [])) ++ rest = f ∙ ap (λ (x : List ℕ). x ++ rest) g in
        let y : bs ≡ (w ++ quote ∷ []) ++ rest = cc in
        never n rest (w, y ∙ append_assoc w (quote ∷ []) rest, k)

-- ---- symbols

pub symbol_starts : (bytes : List ℕ) (s : Symbol) (rest : List ℕ) → 3 ≤ sort (first bytes) → LongestSymbol bytes s rest → Starts bytes (Sym s) rest
symbol_starts bytes s rest h l = record {
  lexeme = spelling s;
  longest = record {
    parts = l.parts;
    one = symbol s refl;
    longest = λ v r f k.
        let (t, e) = only_symbol v k (subst (λ (z : ℕ). 3 ≤ sort z) (sym (same_first bytes v r k f)) h) in
        let m = l.longest t r (f ∙ ap (λ (z : List ℕ). z ++ r) e) in
        omega (arith, ap length e);
  };
  spelled = refl;
}

-- ---- no token starts in no bytes
pub none_in_none : NoneStarts []
none_in_none what rest s = none s.lexeme rest s.longest.one s.longest.parts
  where
    none : (u rest : List ℕ) → Lexeme u → [] ≡ u ++ rest → ⊥
    none [] rest l e = lexeme_full [] l refl
    none (b ∷ u) rest l e = absurd cc

-- ---- bytes spell one token

tok_sort : Tok → ℕ
tok_sort (Word w) = 0
tok_sort (Int n) = 1
tok_sort Big = 1
tok_sort (Text m) = 2
tok_sort (Sym s) = 3

spelled_sort : (t : Tok) (u : List ℕ) → Spelled t u → sort (first u) ≡ tok_sort t
unfolding tok_sort
spelled_sort (Word w) u h = word_sort u h.0
spelled_sort (Int n) u h = number_sort u h.0
spelled_sort Big u h = number_sort u h.0
spelled_sort (Text m) u h = text_sort m u h
spelled_sort (Sym s) u h = ap (λ (z : List ℕ). sort (first z)) h ∙ symbol_sort s

pub one_spelled : (a b : Tok) (u : List ℕ) → Spelled a u → Spelled b u → a ≡ b
unfolding tok_sort
one_spelled (Word w) (Word x) u h k = ap Word (h.1 ∙ sym k.1)
one_spelled (Int n) (Int m) u h k = ap Int (h.2 ∙ sym k.2)
one_spelled (Int n) Big u h k = absurd (omega (arith, h.1, k.1))
one_spelled Big (Int m) u h k = absurd (omega (arith, h.1, k.1))
one_spelled Big Big u h k = refl
one_spelled (Text m) (Text n) u h k = ap Text (one_text m n u h k)
one_spelled (Sym s) (Sym t) u h k = ap Sym (one_symbol s t (sym h ∙ k))
one_spelled (Word w) b u h k = absurd (omega (arith, spelled_sort (Word w) u h, spelled_sort b u k))
one_spelled (Int n) b u h k = absurd (omega (arith, spelled_sort (Int n) u h, spelled_sort b u k))
one_spelled Big b u h k = absurd (omega (arith, spelled_sort Big u h, spelled_sort b u k))
one_spelled (Text m) b u h k = absurd (omega (arith, spelled_sort (Text m) u h, spelled_sort b u k))
one_spelled (Sym s) b u h k = absurd (omega (arith, spelled_sort (Sym s) u h, spelled_sort b u k))
