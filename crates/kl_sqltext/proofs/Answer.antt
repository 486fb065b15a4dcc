-- The descent answers exactly the readings of the grammar, and the exact place where there is none.
use Rattle.std.proofs.Common.{◌≡◌, ℕ, ◌-◌, ◌≤◌, ◌<◌, List, [], ◌∷◌, zero, suc, length, IsTrue, drop, true, inl, inr, refl, sym, ap, subst, ◌∙◌, arith}
use Rattle.kl_phrase.specs.Places.{IsDeepPlace, AnswersPlace}
use Rattle.kl_phrase.specs.Words.{heads}
use Rattle.kl_phrase.specs.Readers.{Out, ok, fail, bad, deep, ended}
use Rattle.kl_phrase.proofs.Exact as exact
use Rattle.kl_sqltext.specs.declared.ast.Spj.{Spj}
use Rattle.kl_sqltext.specs.Grammar.{Statement}
use Rattle.kl_sqltext.specs.Reading.{SqlReads, IsBadSql, IsSqlOrBad}
use Rattle.kl_sqltext.specs.Statements as d
use Rattle.kl_sqltext.proofs.Goods.{Ends, exactly}

answers : (bytes : List ℕ) (o : Out ℕ Spj) → d.statement bytes ≡ o → AnswersPlace (λ _. Statement) (λ _. true) 0 bytes (ended o)
answers bytes o e = subst (λ (q : Out ℕ Spj). AnswersPlace (λ _. Statement) (λ _. true) 0 bytes (ended q)) e (exact.answers (λ _. Statement) (λ n. n) Ends (λ _. true) (λ N n. d.statement) exactly 0 bytes)

only : (bytes : List ℕ) (o : Out ℕ Spj) (s : Spj) → d.statement bytes ≡ o → SqlReads bytes s → ended o ≡ ok s []
only bytes o s e h = ap ended (sym e) ∙ exact.only (λ _. Statement) (λ n. n) Ends (λ _. true) (λ N n. d.statement) exactly 0 s bytes h

pub unique : (bytes : List ℕ) (s t : Spj) → SqlReads bytes s → SqlReads bytes t → s ≡ t
unique bytes s t h i = exact.unique (λ _. Statement) (λ n. n) Ends (λ _. true) (λ N n. d.statement) exactly 0 0 s t bytes h i

pub whole : (bytes r : List ℕ) (s : Spj) → d.statement bytes ≡ ok s r → length r ≡ 0 → SqlReads bytes s
whole bytes [] s e z = (answers bytes (ok s []) e).1
whole bytes (t ∷ r) s e z = absurd cc

pub same : (bytes r : List ℕ) (s t : Spj) → d.statement bytes ≡ ok s r → length r ≡ 0 → SqlReads bytes t → s ≡ t
same bytes [] s t e z h = let k : Path (Out ℕ Spj) (ok s []) (ok t []) = only bytes (ok s []) t e h in cc
same bytes (x ∷ r) s t e z h = absurd cc

pub rest_none : (bytes r : List ℕ) (s t : Spj) → d.statement bytes ≡ ok s r → 0 < length r → SqlReads bytes t → ⊥
rest_none bytes [] s t e z h = omega (arith, z)
rest_none bytes (x ∷ r) s t e z h = let k : Path (Out ℕ Spj) (fail bad (x ∷ r)) (ok t []) = only bytes (ok s (x ∷ r)) t e h in cc

pub rest_bad : (bytes r : List ℕ) (s : Spj) → d.statement bytes ≡ ok s r → 0 < length r → (length r ≤ length bytes) × IsBadSql bytes (length bytes - length r)
rest_bad bytes [] s e z = absurd (omega (arith, z))
rest_bad bytes (x ∷ r) s e z = let k = answers bytes (ok s (x ∷ r)) e in (k.0, k.1)

pub bad_none : (bytes r : List ℕ) (t : Spj) → d.statement bytes ≡ fail bad r → SqlReads bytes t → ⊥
bad_none bytes r t e h = let k : Path (Out ℕ Spj) (fail bad r) (ok t []) = only bytes (fail bad r) t e h in cc

pub bad_bad : (bytes r : List ℕ) → d.statement bytes ≡ fail bad r → (length r ≤ length bytes) × IsBadSql bytes (length bytes - length r)
bad_bad bytes r e = let k = answers bytes (fail bad r) e in (k.0, k.1)

heads_drop : (ts : List ℕ) (k : ℕ) → k < length ts → IsTrue (heads (λ _. true) (drop k ts))
heads_drop [] k lt = absurd (omega arith)
heads_drop (t ∷ ts) zero lt = refl
heads_drop (t ∷ ts) (suc k) lt = heads_drop ts k (omega arith)

-- nothing nests
never_deep : (bytes : List ℕ) (k : ℕ) → IsDeepPlace (λ _. Statement) (λ _. true) 0 bytes k → ⊥
never_deep bytes k p = let (more, (depth, s, h)) = p.begins in p.too_deep (heads_drop bytes k p.within) (more, s, h)

pub no_deep : (bytes r : List ℕ) → d.statement bytes ≡ fail deep r → ⊥
no_deep bytes r e = never_deep bytes _ (answers bytes (fail deep r) e).1

pub told : (bytes : List ℕ) → IsSqlOrBad bytes
told bytes = by (d.statement bytes) refl
  where
    by : (o : Out ℕ Spj) → d.statement bytes ≡ o → IsSqlOrBad bytes
    by (ok s []) e = inl (s, whole bytes [] s e refl)
    by (ok s (x ∷ r)) e = inr (_, (rest_bad bytes (x ∷ r) s e (omega arith)).1)
    by (fail bad r) e = inr (_, (bad_bad bytes r e).1)
    by (fail deep r) e = absurd (no_deep bytes r e)
