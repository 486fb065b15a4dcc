-- What the code's steps say of the descent.
use Rattle.std.proofs.Common.{◌≡◌, ℕ, suc, ◌+◌, ◌-◌, ◌≤◌, Bool, true, false, List, [], ◌∷◌, ◌++◌, length, take, take_all, drop, get_or, IsTrue, append-nil, append_assoc, refl, sym, ap, subst, ◌∙◌, arith, add-one}
use Rattle.std.proofs.Math.Numerals.{one-add}
use Rattle.std.specs.Char.{is_ascii_alphabetic}
use Rattle.kl_base.specs.Word.{is_word, is_word_byte}
use Rattle.kl_phrase.specs.Readers.{Out, ok, fail, after, tails, loop}
use Rattle.std.specs.List.{prefix_len, list_all}
use Rattle.kl_sqltext.specs.Descent.{mark, run, word, part, text}

-- ---- words

module _ (test : ℕ → Bool) where
  span_from : (a ts : List ℕ) → run (λ (_ : List ℕ) t. test t) (λ s t. s ++ t ∷ []) a ts ≡ ok (a ++ take (prefix_len test ts) ts) (drop (prefix_len test ts) ts)
  span_from a [] = ap (λ z. ok z []) (sym (append-nil a))
  span_from a (t ∷ ts) = by (test t) refl (span_from (a ++ t ∷ []) ts)
    where
      by : (b : Bool) → test t ≡ b → run (λ (_ : List ℕ) t. test t) (λ s t. s ++ t ∷ []) (a ++ t ∷ []) ts ≡ ok ((a ++ t ∷ []) ++ take (prefix_len test ts) ts) (drop (prefix_len test ts) ts)
          → run (λ (_ : List ℕ) t. test t) (λ s t. s ++ t ∷ []) a (t ∷ ts) ≡ ok (a ++ take (prefix_len test (t ∷ ts)) (t ∷ ts)) (drop (prefix_len test (t ∷ ts)) (t ∷ ts))
      by false e h = rw e (ap (λ z. ok z (t ∷ ts)) (sym (append-nil a)))
      by true e h = rw (e, one-add) (h ∙ ap (λ z. ok z (drop (prefix_len test ts) ts)) (append_assoc a (t ∷ []) (take (prefix_len test ts) ts)))

  all_pass : (ts : List ℕ) → IsTrue (list_all test (take (prefix_len test ts) ts))
  all_pass [] = refl
  all_pass (t ∷ ts) = by (test t) refl (all_pass ts)
    where
      by : (b : Bool) → test t ≡ b → IsTrue (list_all test (take (prefix_len test ts) ts)) → IsTrue (list_all test (take (prefix_len test (t ∷ ts)) (t ∷ ts)))
      by false e h = rw e refl
      by true e h = rw (e, one-add, e) h

pub word_split : (t : ℕ) (rest : List ℕ) → is_ascii_alphabetic t ≡ true → word (t ∷ rest) ≡ ok (take (prefix_len is_word_byte rest + 1) (t ∷ rest)) (drop (prefix_len is_word_byte rest + 1) (t ∷ rest))
word_split t rest h = rw (h, add-one, span_from is_word_byte [] rest) refl

pub word_is : (t : ℕ) (rest : List ℕ) → is_ascii_alphabetic t ≡ true → IsTrue (is_word (take (prefix_len is_word_byte rest + 1) (t ∷ rest)))
word_is t rest h = rw (add-one, h) (all_pass is_word_byte rest)

pub word_at : (bytes front back : List ℕ) (alpha : Bool) (n : ℕ) → 1 ≤ length bytes → alpha ≡ is_ascii_alphabetic (get_or bytes 0 0) → alpha ≡ true → n ≡ prefix_len is_word_byte (take (length bytes - 1) (drop 1 bytes)) → front ≡ take (n + 1) bytes → back ≡ drop (n + 1) bytes
    → (word bytes ≡ ok front back) × IsTrue (is_word front)
word_at [] front back alpha n some a e count f b = absurd (omega arith)
word_at (t ∷ rest) front back alpha n some a e count f b =
    let letter : is_ascii_alphabetic t ≡ true = sym a ∙ e in
    let all : n ≡ prefix_len is_word_byte rest = count ∙ ap (prefix_len is_word_byte) (take_all (suc (length rest) - 1) rest (omega arith)) in
    let is_front : front ≡ take (prefix_len is_word_byte rest + 1) (t ∷ rest) = f ∙ ap (λ k. take (k + 1) (t ∷ rest)) all in
    let is_back : back ≡ drop (prefix_len is_word_byte rest + 1) (t ∷ rest) = b ∙ ap (λ k. drop (k + 1) (t ∷ rest)) all in
    (word_split t rest letter ∙ (λ i. ok (sym is_front i) (sym is_back i)), subst (λ z. IsTrue (is_word z)) (sym is_front) (word_is t rest letter))

-- ---- texts

pub text_is : (bytes inside rest : List ℕ) (found : List ℕ) (x : Unit {0}) → mark 39 bytes ≡ ok tt inside → tails part [] inside ≡ ok (found, x) rest → text bytes ≡ ok found rest
text_is bytes inside rest found x h e = rw h (by (loop part inside) e)
  where
    by : (o : Out ℕ (List ℕ × Unit {0})) → after {B = List ℕ × Unit {0}} o (λ y r. ok ([] ++ y.0, y.1) r) ≡ ok (found, x) rest → after {B = List ℕ} o (λ y r. ok y.0 r) ≡ ok found rest
    by (ok y r) k = let p : Path (List ℕ × Unit {0}) ([] ++ y.0, y.1) (found, x) = cc in let q : r ≡ rest = cc in λ i. ok (p i).0 (q i)
    by (fail w r) k = absurd cc
