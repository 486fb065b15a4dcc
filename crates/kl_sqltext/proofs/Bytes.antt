-- The words of SQL text, each with its reader.
use Rattle.std.proofs.Common.{◌≡◌, ℕ, ◌==◌, Bool, true, false, IsTrue, List, [], ◌∷◌, ◌++◌, Some, None, if◌then◌else◌, refl, sym, ap, subst, ◌∙◌, append_assoc, eqb-true}
use Rattle.std.proofs.lemmas.Bool.{eq-eqb, and_parts}
use Rattle.std.proofs.lemmas.List.{append-nil}
use Rattle.std.specs.List.{list_all}
use Rattle.std.specs.Char.{is_ascii_alphabetic}
use Rattle.kl_base.specs.Word.{is_word, is_word_byte}
use Rattle.kl_phrase.specs.Words.{Phrase, One, Then, Behind, Made, list_of}
use Rattle.kl_phrase.proofs.Theory.{Decides, On, Meets, To, only_true}
use Rattle.kl_phrase.proofs.Firsts.{Stops, on_one, Without, heads_without}
use Rattle.kl_sqltext.specs.Words.{IsByte, ThisByte, TheseBytes, is_blank, IsBlank, AnyBlanks, SomeBlanks, AWord, QuotedWord}
use Rattle.kl_sqltext.specs.Descent.{is, a_byte, mark, code, span, gap, a_blank, space, passing, word, named}
use Rattle.kl_sqltext.proofs.Flat.{Free, ReadsFlat, reads_one, reads_nothing, reads_made, reads_both, reads_behind, reads_before, reads_same}
use Rattle.kl_sqltext.proofs.Runs.{Leads, reads_run}

-- ---- one byte

decides_byte : (c : ℕ) → Decides (IsByte c) (a_byte c)
decides_byte c = (λ t x h. eqb-true t c (only_true (t == c) x h), λ t x e. rw (eq-eqb t c e) refl)

pub reads_mark : (c : ℕ) → ReadsFlat (ThisByte c) Free (mark c)
reads_mark c = reads_one (decides_byte c) c tt refl

pub on_mark : (c : ℕ) → On (is c) (ThisByte c)
on_mark c = on_one (λ t x e. eq-eqb t c e)

pub only_byte : (c : ℕ) (test : ℕ → Bool) → test c ≡ false → Without (is c) test
only_byte c test h t e = subst (λ z. test z ≡ false) (sym (eqb-true t c e)) h

-- ---- keywords

code_to : (c : ℕ) (cs : List ℕ) → To (Behind (ThisByte c) (TheseBytes cs)) (TheseBytes (c ∷ cs))
code_to c cs n x ts (u, v, e, (t, eu, et), ev) = e ∙ (λ i. eu i ++ ev i) ∙ ap (λ z. z ∷ cs) et

pub reads_code : (cs : List ℕ) → ReadsFlat (TheseBytes cs) Free (code cs)
reads_code [] = reads_same (λ n x ts h. h.1) (λ n x ts h. (refl, h)) (reads_nothing tt)
reads_code (c ∷ cs) = reads_same (code_to c cs) (λ n x ts e. (c ∷ [], cs, e, (c, refl, refl), refl)) (reads_behind (reads_mark c) (reads_code cs) (λ n b y v r h. tt))

pub on_code : (c : ℕ) (cs : List ℕ) → On (is c) (TheseBytes (c ∷ cs))
on_code c cs n x u v e = rw e (eq-eqb c c refl)

-- ---- white space

gap_to : (n : ℕ) (x : Unit {0}) (ts : List ℕ) → Leads (λ (_ : Unit {0}) t. is_blank t) (λ _ t. tt) tt x ts → IsTrue (list_all is_blank ts)
gap_to n x [] h = refl
gap_to n x (t ∷ ts) h = rw h.0 (gap_to n x ts h.1)

gap_from : (n : ℕ) (x : Unit {0}) (ts : List ℕ) → IsTrue (list_all is_blank ts) → Leads (λ (_ : Unit {0}) t. is_blank t) (λ _ t. tt) tt x ts
gap_from n x [] h = refl
gap_from n x (t ∷ ts) h = let k = and_parts (is_blank t) (list_all is_blank ts) h in (k.0, gap_from n x ts k.1)

pub reads_gap : ReadsFlat AnyBlanks (Stops is_blank) gap
reads_gap = reads_same gap_to gap_from (reads_run (λ (_ : Unit {0}) t. is_blank t) (λ _ t. tt) tt (Stops is_blank) (λ b v h. h))

decides_blank : Decides IsBlank a_blank
decides_blank = (λ t x h. only_true (is_blank t) x h, λ t x h. rw h refl)

meets_gap : (D : List ℕ → Type 0) → Meets Free AnyBlanks D
meets_gap D n b y v r h = tt

pub reads_space : ReadsFlat SomeBlanks (Stops is_blank) space
reads_space = reads_behind (reads_one decides_blank 32 tt refl) reads_gap (meets_gap (Stops is_blank))

pub on_space : On is_blank SomeBlanks
on_space n x u v (y, z, e, (t, ey, h), r) = rw (e, ey) h

-- ---- names

pub decides_passing : (test : ℕ → Bool) → Decides (λ t a. (a ≡ t) × IsTrue (test t)) (passing test)
decides_passing test = (there, λ t a h. rw h.1 (ap Some (sym h.0)))
  where
    there : (t a : ℕ) → passing test t ≡ Some a → (a ≡ t) × IsTrue (test t)
    there t a h = by (test t) refl h
      where
        by : (b : Bool) → test t ≡ b → (if b then Some t else None) ≡ Some a → (a ≡ t) × IsTrue (test t)
        by true e h = let k : a ≡ t = cc in (k, e)
        by false e h = absurd cc

Span : (ℕ → Bool) → Phrase ℕ (List ℕ)
Span test n s ts = (s ≡ ts) × IsTrue (list_all test ts)

module _ (test : ℕ → Bool) where
  leads_span : (a s ts : List ℕ) → Leads (λ (_ : List ℕ) t. test t) (λ s t. s ++ t ∷ []) a s ts → (s ≡ a ++ ts) × IsTrue (list_all test ts)
  leads_span a s [] h = (h ∙ sym (append-nil a), refl)
  leads_span a s (t ∷ ts) h = let k = leads_span (a ++ t ∷ []) s ts h.1 in (k.0 ∙ append_assoc a (t ∷ []) ts, rw h.0 k.1)

  span_leads : (a ts : List ℕ) → IsTrue (list_all test ts) → Leads (λ (_ : List ℕ) t. test t) (λ s t. s ++ t ∷ []) a (a ++ ts) ts
  span_leads a [] h = append-nil a
  span_leads a (t ∷ ts) h = let k = and_parts (test t) (list_all test ts) h in (k.0, subst (λ z. Leads (λ (_ : List ℕ) t. test t) (λ s t. s ++ t ∷ []) (a ++ t ∷ []) z ts) (append_assoc a (t ∷ []) ts) (span_leads (a ++ t ∷ []) ts k.1))

  reads_span : ReadsFlat (Span test) (Stops test) (span test)
  unfolding Span
  reads_span = reads_same (λ n s ts h. leads_span [] s ts h) (λ n s ts h. subst (λ z. Leads (λ (_ : List ℕ) t. test t) (λ s t. s ++ t ∷ []) [] z ts) (sym h.0) (span_leads [] ts h.1)) (reads_run (λ (_ : List ℕ) t. test t) (λ s t. s ++ t ∷ []) [] (Stops test) (λ b v h. h))

abbrev Letter : Phrase ℕ ℕ
Letter = One (λ t a. (a ≡ t) × IsTrue (is_ascii_alphabetic t))

word_to : To (Made list_of (Then Letter (Span is_word_byte))) AWord
unfolding Span
word_to n w ts (a, ea, (u, v, e, (t, et, (k, h)), (s, all))) =
    let whole : ts ≡ t ∷ v = e ∙ ap (λ z. z ++ v) et in
    let is_it : w ≡ t ∷ v = ea ∙ (λ i. k i ∷ s i) in
    (whole ∙ sym is_it, subst (λ z. IsTrue (is_word z)) (sym is_it) (rw (h, all) refl))

word_from : To AWord (Made list_of (Then Letter (Span is_word_byte)))
unfolding Span
word_from n [] ts (e, h) = absurd cc
word_from n (b ∷ bs) ts (e, h) = let k = and_parts (is_ascii_alphabetic b) (list_all is_word_byte bs) h in ((b, bs), refl, (b ∷ [], bs, e, (b, refl, (refl, k.0)), (refl, k.1)))

reads_word : ReadsFlat AWord (Stops is_word_byte) word
reads_word = reads_same word_to word_from (reads_made list_of (reads_both (reads_one (decides_passing is_ascii_alphabetic) 97 97 (refl, refl)) (reads_span is_word_byte) (λ n b y v r h. tt)))

pub reads_named : ReadsFlat QuotedWord Free named
reads_named = reads_behind (reads_mark 34) (reads_before reads_word (reads_mark 34) (λ n b y v r h. heads_without (only_byte 34 is_word_byte refl) (y ++ v) (on_mark 34 n b y v r))) (λ n b y v r h. tt)

pub on_named : On (is 34) QuotedWord
on_named n w u v (y, z, e, s, r) = rw (e, append_assoc) (on_mark 34 n tt y (z ++ v) s)
