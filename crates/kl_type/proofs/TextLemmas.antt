-- What the answers of an exact descent say of a text, and of its bytes.
use Rattle.std.proofs.Common.{◌≡◌, ℕ, ◌+◌, ◌-◌, List, [], ◌∷◌, ◌++◌, length, drop, refl, sym, ap, subst, ◌∙◌, length-append, arith}
use Rattle.std.proofs.Math.Seq.{drop-append_seam}
use Rattle.std.specs.Prelude.{Result, Ok, Err, IfOk}
use Rattle.kl_lex.specs.declared.token.Placed.{Placed}
use Rattle.kl_lex.specs.declared.lexer.Lexed.{Lexed}
use Rattle.kl_lex.specs.declared.lexer.Lexed.TheVariants as lexed
use Rattle.kl_lex.specs.Placing.{PlacedTokens, AreLexed, OnlyTokens}
use Rattle.kl_phrase.specs.Words.{Phrase}
use Rattle.kl_phrase.specs.Readers.{Out, Reader, ok, fail, bad, deep, ended}
use Rattle.kl_phrase.specs.FirstPlaces.{FirstAnswers}
use Rattle.kl_phrase.proofs.Kept.{Rests}
use Rattle.kl_type.specs.Texts.{byte_of, is_bracket, Spells, IsTextOf, IsBadAt, IsDeepAt, AtBad, AtDeep}

empty : (r : List Placed) → length r ≡ 0 → r ≡ []
empty [] z = refl
empty (t ∷ r) z = absurd cc

-- the rest is what is left of the whole
dropped : (ts u r : List Placed) → ts ≡ u ++ r → drop (length ts - length r) ts ≡ r
dropped ts u r e =
    let k : length ts ≡ length u + length r = ap length e ∙ length-append u r in
    let j : length ts - length r ≡ length u = omega arith in
    ap (λ (n : ℕ). drop n ts) j ∙ ap (λ (z : List Placed). drop (length u) z) e ∙ drop-append_seam u r

-- the descent p answers the texts of S, and the first place where there is none
pub record ReadsExactly {A : Type 0} (S : ℕ → Phrase Placed A) (p : Reader Placed A) : Type 0 where
  pub answers : (ts : List Placed) → FirstAnswers S is_bracket 256 ts (ended (p ts))
  pub only : (ts : List Placed) (a : A) → Spells S ts a → ended (p ts) ≡ ok a []
  pub rests : (ts : List Placed) → Rests ts (p ts)

module _ {A : Type 0} {S : ℕ → Phrase Placed A} {p : Reader Placed A} (exact : ReadsExactly S p) (total : ℕ) (ts : List Placed) where
  answered : (o : Out Placed A) → p ts ≡ o → FirstAnswers S is_bracket 256 ts (ended o)
  answered o e = subst (λ (z : Out Placed A). FirstAnswers S is_bracket 256 ts (ended z)) e (exact.answers ts)

  only_so : (o : Out Placed A) (a : A) → p ts ≡ o → Spells S ts a → ended o ≡ ok a []
  only_so o a e h = ap ended (sym e) ∙ exact.only ts a h

  pub whole : (a : A) (r : List Placed) → p ts ≡ ok a r → length r ≡ 0 → Spells S ts a
  whole a r e z = (answered (ok a []) (e ∙ ap (ok a) (empty r z))).1

  pub same : (a b : A) (r : List Placed) → p ts ≡ ok a r → length r ≡ 0 → Spells S ts b → a ≡ b
  same a b r e z h = let k : Path (Out Placed A) (ok a []) (ok b []) = only_so (ok a []) b (e ∙ ap (ok a) (empty r z)) h in cc

  left : (o : Out Placed A) → p ts ≡ o → Rests ts o
  left o e = subst (λ (z : Out Placed A). Rests ts z) e (exact.rests ts)

  at : (P : List Placed → ℕ → Type 0) (u r : List Placed) → ts ≡ u ++ r → P ts (length ts - length r) → (k : ℕ) × P ts k × (byte_of total r ≡ byte_of total (drop k ts))
  at P u r e h = (length ts - length r, h, ap (byte_of total) (sym (dropped ts u r e)))

  pub rest_place : (a : A) (r : List Placed) → p ts ≡ ok a r → (length r ≡ 0 → ⊥) → AtBad S total ts (byte_of total r)
  rest_place a [] e z = absurd (z refl)
  rest_place a (x ∷ r) e z = let l = left (ok a (x ∷ r)) e in at (IsBadAt S) l.0 (x ∷ r) l.1 (answered (ok a (x ∷ r)) e).1

  pub rest_none : (a b : A) (r : List Placed) → p ts ≡ ok a r → (length r ≡ 0 → ⊥) → Spells S ts b → ⊥
  rest_none a b [] e z h = z refl
  rest_none a b (x ∷ r) e z h = let k : Path (Out Placed A) (fail bad (x ∷ r)) (ok b []) = only_so (ok a (x ∷ r)) b e h in cc

  pub bad_place : (r : List Placed) → p ts ≡ fail bad r → AtBad S total ts (byte_of total r)
  bad_place r e = let l = left (fail bad r) e in at (IsBadAt S) l.0 r l.1 (answered (fail bad r) e).1

  pub bad_none : (b : A) (r : List Placed) → p ts ≡ fail bad r → Spells S ts b → ⊥
  bad_none b r e h = let k : Path (Out Placed A) (fail bad r) (ok b []) = only_so (fail bad r) b e h in cc

  pub deep_place : (r : List Placed) → p ts ≡ fail deep r → AtDeep S total ts (byte_of total r)
  deep_place r e = let l = left (fail deep r) e in at (IsDeepAt S) l.0 r l.1 (answered (fail deep r) e).1

  pub deep_none : (b : A) (r : List Placed) → p ts ≡ fail deep r → Spells S ts b → ⊥
  deep_none b r e h = let k : Path (Out Placed A) (fail deep r) (ok b []) = only_so (fail deep r) b e h in cc

-- ---- the tokens of the bytes: what the lexer answered, and the same tokens again

module _ (bytes : List ℕ) (l : Lexed) (ts rs : List Placed) (z : l ≡ lexed.Tokens ts) (y : rs ≡ ts) (h : AreLexed bytes l) (o : (us : List Placed) → PlacedTokens bytes us → OnlyTokens l us) where
  pub placed : PlacedTokens bytes rs
  placed = subst (λ (q : List Placed). PlacedTokens bytes q) (sym y) (subst (λ (q : Lexed). AreLexed bytes q) z h).0

  alone : (us : List Placed) → PlacedTokens bytes us → rs ≡ us
  alone us k = y ∙ subst (λ (q : Lexed). OnlyTokens q us) z (o us k)

  module _ {A : Type 0} (S : ℕ → Phrase Placed A) where
    pub reads_so : {E : Type 0} (r : Result A E) → IfOk r (Spells S rs) → IfOk r (IsTextOf S bytes)
    reads_so (Ok a) k = (rs, placed, k)
    reads_so (Err e) k = tt

    pub only_as : (P : A → Type 0) → ((a : A) → Spells S rs a → P a) → (a : A) → IsTextOf S bytes a → P a
    only_as P k a (us, q, s) = k a (subst (λ (z : List Placed). Spells S z a) (sym (alone us q)) s)
