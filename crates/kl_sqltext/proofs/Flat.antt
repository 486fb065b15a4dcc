-- A grammar without nesting: what a reader of one of its words keeps, and that it keeps it when words are put together.
-- One line a word: that it reads all of the phrase and no more, that it looks at no token behind the first of the rest, and
-- that some text spells the phrase.
use Rattle.std.proofs.Common.{◌≡◌, ℕ, ◌+◌, Bool, true, false, List, [], ◌++◌, length, Option, ◌⊎◌, inl, inr, refl, ap, ◌∙◌, ◌<◌, subst, arith, length-append}
use Rattle.std.proofs.lemmas.List.{append_cancel_right}
use Rattle.kl_phrase.specs.Words.{heads, Phrase, One, Nothing, Then, Behind, Before, Made, Or, Never, Parted}
use Rattle.kl_phrase.specs.Readers.{Why, bad, Out, ok, fail, Reader, one, nothing, chain, both, behind, before, made, pick, loop, parted}
use Rattle.kl_phrase.proofs.Theory.{Good, To, Has, On, Off, Meets, Chain, Loop, Eats, Follow, Decides, Sound, good_one, good_nothing, good_chain, good_same, good_follow, good_made, good_pick, good_loop, good_both, good_behind, good_before, good_parted, has_behind}
use Rattle.kl_phrase.proofs.Firsts.{has_one, has_nothing, has_then, has_before, has_made, has_left, has_parted}
use Rattle.kl_phrase.proofs.Kept.{Keeps, Bites, keeps_one, keeps_nothing, keeps_chain, keeps_made, keeps_both, keeps_behind, keeps_before, keeps_pick, keeps_loop, Takes, keeps_parted}
use Rattle.kl_phrase.proofs.Exact.{Exactly}

module _ {T : Type 0} where
  -- anything may follow
  abbrev pub Free : List T → Type 0
  Free v = Unit {0}

pub record ReadsFlat {T A : Type 0} (S : Phrase T A) (C : List T → Type 0) (p : Reader T A) : Type 1 where
  pub good : (N : ℕ) → Good N S S C p
  pub keeps : (Q : Why → List T → Type 0) (N M : ℕ) → Keeps Q N M p p
  pub has : Has S

module _ {T : Type 0} where
  pub reads_one : {A : Type 0} {R : T → A → Type 0} {f : T → Option A} → Decides R f → (t : T) (a : A) → R t a → ReadsFlat (One R) Free (one f)
  reads_one {A} {R} {f} d t a h = record { good = λ N. good_one d; keeps = λ Q N M. keeps_one f; has = has_one R t a h }

  pub reads_nothing : {A : Type 0} (a : A) → ReadsFlat {T = T} (Nothing a) Free (nothing a)
  reads_nothing a = record { good = λ N. good_nothing; keeps = λ Q N M. keeps_nothing a; has = has_nothing a }

  pub reads_made : {A B : Type 0} (f : A → B) {S : Phrase T A} {C : List T → Type 0} {p : Reader T A} → ReadsFlat S C p → ReadsFlat (Made f S) C (made f p)
  reads_made f {S} r = record { good = λ N. good_made (r.good N); keeps = λ Q N M. keeps_made f (r.keeps Q N M); has = has_made f S r.has }

  pub reads_both : {A B : Type 0} {S : Phrase T A} {R : Phrase T B} {C D : List T → Type 0} {p : Reader T A} {q : Reader T B} → ReadsFlat S C p → ReadsFlat R D q → Meets C R D → ReadsFlat (Then S R) D (both p q)
  reads_both {A} {B} {S} {R} r s m = record { good = λ N. good_both (r.good N) (s.good N) s.has m; keeps = λ Q N M. keeps_both (r.keeps Q N M) (s.keeps Q N M); has = has_then S R r.has s.has }

  pub reads_behind : {A : Type 0} {S : Phrase T (Unit {0})} {R : Phrase T A} {C D : List T → Type 0} {p : Reader T (Unit {0})} {q : Reader T A} → ReadsFlat S C p → ReadsFlat R D q → Meets C R D → ReadsFlat (Behind S R) D (behind p q)
  reads_behind {A} {S} {R} r s m = record { good = λ N. good_behind (r.good N) (s.good N) s.has m; keeps = λ Q N M. keeps_behind (r.keeps Q N M) (s.keeps Q N M); has = has_behind S R r.has s.has }

  pub reads_before : {A : Type 0} {S : Phrase T A} {R : Phrase T (Unit {0})} {C D : List T → Type 0} {p : Reader T A} {q : Reader T (Unit {0})} → ReadsFlat S C p → ReadsFlat R D q → Meets C R D → ReadsFlat (Before S R) D (before p q)
  reads_before {A} {S} {R} r s m = record { good = λ N. good_before (r.good N) (s.good N) s.has m; keeps = λ Q N M. keeps_before (r.keeps Q N M) (s.keeps Q N M); has = has_before S R r.has s.has }

  pub reads_chain : {A B : Type 0} {S : Phrase T A} {K : A → Phrase T B} {C D : List T → Type 0} {p : Reader T A} {k : A → Reader T B} → ReadsFlat S C p → ((a : A) → ReadsFlat (K a) D (k a)) → ((a : A) → Meets C (K a) D) → ReadsFlat (Chain S K) D (chain p k)
  reads_chain {A} {B} {S} {K} r s m = record {
    good = λ N. good_chain {K = K} {V = K} (r.good N) (λ a. (s a).good N) (λ a. (s a).has) m;
    keeps = λ Q N M. keeps_chain (r.keeps Q N M) (λ a. (s a).keeps Q N M);
    has = λ n. let a = r.has n in let b = (s a.0).has (n + length a.1) in (b.0, a.1 ++ b.1, (a.0, a.1, b.1, refl, a.2, b.2));
  }

  pub reads_pick : {A : Type 0} {test : T → Bool} {S R : Phrase T A} {C : List T → Type 0} {p q : Reader T A} → ReadsFlat S C p → ReadsFlat R C q → On test S → Off test R C → ReadsFlat (Or S R) C (pick test p q)
  reads_pick {A} {test} {S} {R} r s on off = record { good = λ N. good_pick (r.good N) (s.good N) on off; keeps = λ Q N M. keeps_pick (r.keeps Q N M) (s.keeps Q N M); has = has_left S R r.has }

  -- another phrase of the same texts
  pub reads_same : {A : Type 0} {S R : Phrase T A} {C : List T → Type 0} {p : Reader T A} → To S R → To R S → ReadsFlat S C p → ReadsFlat R C p
  reads_same {A} {S} {R} to from r = record { good = λ N. good_same to from to (r.good N); keeps = r.keeps; has = λ n. let a = r.has n in (a.0, a.1, to n a.0 a.1 a.2) }

  -- less may follow
  pub reads_follow : {A : Type 0} {S : Phrase T A} {C : List T → Type 0} (D : List T → Type 0) {p : Reader T A} → ((v : List T) → D v → C v) → ReadsFlat S C p → ReadsFlat S D p
  reads_follow D to r = record { good = λ N. good_follow D to (r.good N); keeps = r.keeps; has = r.has }

  -- what is read where nothing can be
  abbrev pub never : {A : Type 0} → Reader T A
  never ts = fail bad ts

  -- what never is read
  good_never : {A : Type 0} {N : ℕ} {C : List T → Type 0} → Good {T = T} {A = A} N Never Never C never
  good_never = record { sound = λ n ts le. ([], [], ts, refl, refl, refl, inl refl); again = λ n a u v le s c. absurd s; wider = λ n a u s. s }

  keeps_never : {A : Type 0} (Q : Why → List T → Type 0) (N M : ℕ) → Keeps {T = T} {A = A} Q N M never never
  keeps_never Q N M = record { keeps = λ m l hd eq xs le q ys e. ap (λ z. fail bad (z ++ l)) (append_cancel_right xs ys m e); rests = λ ts. ([], refl) }

  pub reads_only : {A : Type 0} {test : T → Bool} {S : Phrase T A} {C : List T → Type 0} {p : Reader T A} → ReadsFlat S C p → On test S → ReadsFlat (Or S Never) C (pick test p never)
  reads_only {A} {test} {S} r on = record { good = λ N. good_pick (r.good N) good_never on (λ n a u v s c. absurd s); keeps = λ Q N M. keeps_pick (r.keeps Q N M) (keeps_never Q N M); has = has_left S Never r.has }

  -- again and again; C: what may follow a turn that goes on
  pub reads_loop : {A B : Type 0} {S : Phrase T (A ⊎ B)} (C : List T → Type 0) {D : List T → Type 0} {p : Reader T (A ⊎ B)} → ReadsFlat S D p → ((n : ℕ) (a : A) (u v : List T) → S n (inl a) u → C v → p (u ++ v) ≡ ok (inl a) v) → Eats S → Has (Loop S) → Meets C (Loop S) D → ReadsFlat (Loop S) D (loop p)
  reads_loop {A} {B} {S} C {D} {p} r on eats has meets = record {
    good = λ N. good_loop N S S C D p (λ m ts le. (r.good N).sound m ts le) (again N) (λ n a u s. s) has eats meets;
    keeps = λ Q N M. keeps_loop (r.keeps Q N M) bites;
    has = has;
  }
    where
      again : (N n : ℕ) (x : A ⊎ B) (u v : List T) → n + length (u ++ v) ≡ N → S n x u → Follow C D x v → p (u ++ v) ≡ ok x v
      again N n (inl a) u v le s h = on n a u v s h
      again N n (inr b) u v le s h = (r.good N).again n (inr b) u v le s h

      bites : Bites p
      bites ts a r2 e = go (subst (λ (o : Out T (A ⊎ B)). Sound S S 0 ts o) e ((r.good (0 + length ts)).sound 0 ts refl))
        where
          go : Sound S S 0 ts (ok (inl a) r2) → length r2 < length ts
          go (u, eu, s) = let k = eats 0 a u s in let l : length ts ≡ length u + length r2 = ap length eu ∙ length-append u r2 in omega arith

  pub reads_parted : {A : Type 0} {test : T → Bool} {M : Phrase T (Unit {0})} {S : Phrase T A} {C D : List T → Type 0} {m : Reader T (Unit {0})} {p : Reader T A} → ReadsFlat M Free m → ReadsFlat S C p → On test M → ((w : List T) → heads test w ≡ true → C w) → ((v : List T) → D v → C v × (heads test v ≡ false)) → Takes m
      → ReadsFlat (Parted M S) D (parted test m p)
  reads_parted {A} {test} {M} {S} rm rs on next stop takes = record {
    good = λ N. good_parted (rm.good N) (rs.good N) rs.has on next stop;
    keeps = λ Q N M. keeps_parted test (rm.keeps Q N M) takes (rs.keeps Q N M);
    has = has_parted M S rs.has;
  }

  -- the same reader at every depth, where any token might nest: so none nests too deep
  pub flat_exactly : {A : Type 0} {S : Phrase T A} {C : List T → Type 0} {p : Reader T A} → ReadsFlat S C p → C [] → Exactly (λ _. S) (λ n. n) C (λ _. true) (λ N n. p)
  flat_exactly r ends = record { has = λ n. r.has; good = λ N n. r.good N; ends = ends; more = λ N M n k le. r.keeps _ N M; same = λ N M n. r.keeps _ N M }
