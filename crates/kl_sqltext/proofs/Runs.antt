-- Bytes one by one, as long as the state that they come to lets them.
use Rattle.std.proofs.Common.{◌≡◌, ℕ, ◌+◌, Bool, true, false, IsTrue, List, [], ◌∷◌, ◌++◌, length, inl, inr, if◌then◌else◌, refl, sym, ap, subst, ◌∙◌, arith, length-append}
use Rattle.std.proofs.lemmas.List.{append_cancel_right}
use Rattle.kl_phrase.specs.Words.{heads, Phrase}
use Rattle.kl_phrase.specs.Readers.{Why, Out, ok, fail}
use Rattle.kl_phrase.proofs.Theory.{Sound}
use Rattle.kl_phrase.proofs.Kept.{Kept, Rests, head}
use Rattle.kl_sqltext.specs.Descent.{run}
use Rattle.kl_sqltext.proofs.Flat.{ReadsFlat}

module _ {A : Type 0} (may : A → ℕ → Bool) (step : A → ℕ → A) where
  -- these bytes lead from one state to the other
  abbrev pub Leads : A → A → List ℕ → Type 0
  Leads a b [] = b ≡ a
  Leads a b (t ∷ ts) = IsTrue (may a t) × Leads (step a t) b ts

  abbrev pub Run : A → Phrase ℕ A
  Run a n b ts = Leads a b ts

  run_sound : (a : A) (n : ℕ) (ts : List ℕ) → Sound (Run a) (Run a) n ts (run may step a ts)
  run_sound a n [] = ([], refl, refl)
  run_sound a n (t ∷ ts) = by (may a t) refl (run may step (step a t) ts) (run_sound (step a t) n ts)
    where
      by : (b : Bool) → may a t ≡ b → (o : Out ℕ A) → Sound (Run (step a t)) (Run (step a t)) n ts o → Sound (Run a) (Run a) n (t ∷ ts) (if b then o else ok a (t ∷ ts))
      by false e o h = ([], refl, refl)
      by true e (ok b r) (u, eu, h) = (t ∷ u, ap (λ z. t ∷ z) eu, (e, h))
      by true e (fail w r) (u, s, v, eu, er, told, inl z) = (t ∷ u, s, v, ap (λ z. t ∷ z) eu, er, told, inr ([], step a t, subst (λ z. Leads a (step a t) (t ∷ z)) (sym z ∙ sym (nil (u ++ s))) (e, refl)))
        where
          nil : (z : List ℕ) → z ++ [] ≡ z
          nil [] = refl
          nil (x ∷ z) = ap (λ y. x ∷ y) (nil z)
      by true e (fail w r) (u, s, v, eu, er, told, inr (more, b, h)) = (t ∷ u, s, v, ap (λ z. t ∷ z) eu, er, told, inr (more, b, (e, h)))

  stopped : (a : A) (v : List ℕ) → heads (may a) v ≡ false → run may step a v ≡ ok a v
  stopped a [] h = refl
  stopped a (t ∷ v) h = rw h refl

  run_again : (a b : A) (u v : List ℕ) → Leads a b u → heads (may b) v ≡ false → run may step a (u ++ v) ≡ ok b v
  run_again a b [] v h s = subst (λ z. run may step z v ≡ ok b v) h (stopped b v s)
  run_again a b (t ∷ u) v h s = rw h.0 (run_again (step a t) b u v h.1 s)

  run_rests : (a : A) (ts : List ℕ) → Rests ts (run may step a ts)
  run_rests a [] = ([], refl)
  run_rests a (t ∷ ts) = by (may a t) (run may step (step a t) ts) (run_rests (step a t) ts)
    where
      by : (b : Bool) (o : Out ℕ A) → Rests ts o → Rests (t ∷ ts) (if b then o else ok a (t ∷ ts))
      by false o h = ([], refl)
      by true (ok b r) h = (t ∷ h.0, ap (λ z. t ∷ z) h.1)
      by true (fail w r) h = (t ∷ h.0, ap (λ z. t ∷ z) h.1)

  longer : (m r ys u : List ℕ) (t : ℕ) → m ≡ u ++ r → r ≡ ys ++ t ∷ m → ⊥
  longer m r ys u t e f = let k : length m ≡ length u + length r = ap length e ∙ length-append u r in let l : length r ≡ length ys + length (t ∷ m) = ap length f ∙ length-append ys (t ∷ m) in omega arith

  none_before : (m ys : List ℕ) → m ≡ ys ++ m → ys ≡ []
  none_before m [] e = refl
  none_before m (y ∷ ys) e = let k : length m ≡ length (y ∷ ys) + length m = ap length e ∙ length-append (y ∷ ys) m in absurd (omega arith)

  module _ (Q : Why → List ℕ → Type 0) where
    at_first : (a : A) (t : ℕ) (m l : List ℕ) → Kept Q (t ∷ m) (t ∷ l) (run may step a (t ∷ m)) (run may step a (t ∷ l))
    at_first a t m l = by (may a t) (run may step (step a t) m) (run_rests (step a t) m)
      where
        by : (b : Bool) (o : Out ℕ A) → Rests m o → Kept Q (t ∷ m) (t ∷ l) (if b then o else ok a (t ∷ m)) (if b then run may step (step a t) l else ok a (t ∷ l))
        by false o h = λ ys e. let k = none_before (t ∷ m) ys e in rw k refl
        by true (ok b r) h = λ ys e. absurd (longer m r ys h.0 t h.1 e)
        by true (fail w r) h = λ q ys e. absurd (longer m r ys h.0 t h.1 e)

    run_kept : (a : A) (m l : List ℕ) → head m ≡ head l → (xs : List ℕ) → Kept Q m l (run may step a (xs ++ m)) (run may step a (xs ++ l))
    run_kept a m l h (x ∷ xs) = by (may a x) (run may step (step a x) (xs ++ m)) (run may step (step a x) (xs ++ l)) (run_kept (step a x) m l h xs)
      where
        by : (b : Bool) (o q : Out ℕ A) → Kept Q m l o q → Kept Q m l (if b then o else ok a (x ∷ (xs ++ m))) (if b then q else ok a (x ∷ (xs ++ l)))
        by false o q k = λ ys e. let k : x ∷ xs ≡ ys = append_cancel_right (x ∷ xs) ys m e in ap (λ z. ok a (z ++ l)) k
        by true o q k = k
    run_kept a [] [] h [] = λ ys e. ap (λ z. ok a z) e
    run_kept a [] (t ∷ l) h [] = absurd cc
    run_kept a (t ∷ m) [] h [] = absurd cc
    run_kept a (t ∷ m) (s ∷ l) h [] = let e : s ≡ t = cc in subst (λ z. Kept Q (t ∷ m) (z ∷ l) (run may step a (t ∷ m)) (run may step a (z ∷ l))) (sym e) (at_first a t m l)

  -- C: what stops it in each state
  pub reads_run : (a : A) (C : List ℕ → Type 0) → ((b : A) (v : List ℕ) → C v → heads (may b) v ≡ false) → ReadsFlat (Run a) C (run may step a)
  reads_run a C stops = record {
    good = λ N. record { sound = λ n ts le. run_sound a n ts; again = λ n b u v le h c. run_again a b u v h (stops b v c); wider = λ n b u h. h };
    keeps = λ Q N M. record { keeps = λ m l h eq xs le. run_kept Q a m l h xs; rests = run_rests a };
    has = λ n. (a, [], refl);
  }
