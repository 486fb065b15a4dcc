-- Readers of parts that may be left out.
use Rattle.std.proofs.Common.{◌≡◌, ℕ, ◌+◌, ◌-◌, Bool, true, false, List, [], ◌∷◌, ◌++◌, length, inl, inr, refl, sym, ap, ◌∙◌, cond, arith}
use Rattle.kl_phrase.specs.Words.{heads, Phrase, Or}
use Rattle.kl_phrase.specs.Readers.{Out, ok, fail, bad, Reader, pick, choose}
use Rattle.kl_phrase.specs.Refusals.{may_miss, missed}
use Rattle.kl_phrase.specs.Fronts.{Missing}
use Rattle.kl_phrase.proofs.Theory.{Good, Sound, On, same_sound}

module _ {T : Type 0} where
  -- p before such a token, and else a plain failure
  pub good_one_way : {N : ℕ} {A : Type 0} {S W : Phrase T A} {C : List T → Type 0} {p : Reader T A} (test : T → Bool) → Good N S W C p → On test S → Good N S W C (pick test p (λ ts. fail bad ts))
  good_one_way {N} {A} {S} {W} {C} {p} test g on = record {
    sound = λ n ts le. by (heads test ts) n ts (p ts) (g.sound n ts le);
    again = λ n a u v le s c. rw (on n a u v s) (g.again n a u v le s c);
    wider = g.wider;
  }
    where
      by : (b : Bool) (n : ℕ) (ts : List T) (o : Out T A) → Sound S W n ts o → Sound S W n ts (cond b o (fail bad ts))
      by true n ts o h = h
      by false n ts o h = ([], [], ts, refl, refl, refl, inl refl)

  same_number : (N n : ℕ) (l : List T) → n + length l ≡ N → N - length l ≡ n
  same_number N n l le = omega arith

  none_missed : (misses : ℕ → T → Bool) (test : T → Bool) → ((k : ℕ) (t : T) → test t ≡ true → misses k t ≡ false) → (k : ℕ) (l : List T) → heads test l ≡ true → heads (misses k) l ≡ false
  none_missed misses test f k [] h = refl
  none_missed misses test f k (t ∷ l) h = f k t h

  -- a part that begins with such a token as may stand for none
  pub good_missing : {N : ℕ} {A : Type 0} {S W : Phrase T A} {C : List T → Type 0} {p : Reader T A} (misses : ℕ → T → Bool) (x : A) (test : T → Bool) → ((k : ℕ) (t : T) → test t ≡ true → misses k t ≡ false) → Good N S W C p → On test S → Good N (Or (Missing misses x) S) (Or (Missing misses x) W) C (choose (may_miss misses N) (missed x) p)
  good_missing {N} {A} {S} {W} {C} {p} misses x test apart g on = record {
    sound = λ n us le. by (may_miss misses N us) n us refl le (g.sound n us le);
    again = again;
    wider = wider;
  }
    where
      read_missing : (n : ℕ) (us : List T) → may_miss misses N us ≡ true → n + length us ≡ N → Sound (Or (Missing misses x) S) (Or (Missing misses x) W) n us (missed x us)
      read_missing n [] h le = absurd (let z : false ≡ true = h in cc)
      read_missing n (t ∷ us) h le = (t ∷ [], refl, inl (t, refl, refl, ap (λ k. misses k t) (sym (same_number N n (t ∷ us) le)) ∙ h))

      by : (b : Bool) (n : ℕ) (us : List T) → may_miss misses N us ≡ b → n + length us ≡ N → Sound S W n us (p us) → Sound (Or (Missing misses x) S) (Or (Missing misses x) W) n us (cond b (missed x us) (p us))
      by true n us h le s = read_missing n us h le
      by false n us h le s = same_sound S W (Or (Missing misses x) S) (Or (Missing misses x) W) n us (p us) (λ n a u s. inr s) (λ n a u s. inr s) s

      again : (n : ℕ) (a : A) (u v : List T) → n + length (u ++ v) ≡ N → Or (Missing misses x) S n a u → C v → choose (may_miss misses N) (missed x) p (u ++ v) ≡ ok a v
      again n a u v le (inl (t, eu, ea, h)) c =
          let le2 : n + length (t ∷ v) ≡ N = ap (λ (z : List T). n + length (z ++ v)) (sym eu) ∙ le in
          let k : may_miss misses N (t ∷ v) ≡ true = ap (λ k. misses k t) (same_number N n (t ∷ v) le2) ∙ h in
          ap (λ (z : List T). choose (may_miss misses N) (missed x) p (z ++ v)) eu ∙ (rw k (ap (λ z. ok z v) (sym ea)))
      again n a u v le (inr s) c = rw (none_missed misses test apart (N - length (u ++ v)) (u ++ v) (on n a u v s)) (g.again n a u v le s c)

      wider : (n : ℕ) (a : A) (u : List T) → Or (Missing misses x) S n a u → Or (Missing misses x) W n a u
      wider n a u (inl s) = inl s
      wider n a u (inr s) = inr (g.wider n a u s)
