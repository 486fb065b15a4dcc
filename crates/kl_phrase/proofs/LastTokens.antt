-- Where the tokens end in what nests too deep, the last of them is none of these kinds.
use Rattle.std.proofs.Common.{◌≡◌, ℕ, zero, suc, ◌-◌, ◌≤◌, Bool, true, false, List, [], ◌∷◌, ◌++◌, length, Option, Some, None as Nil, ◌⊎◌, inl, inr, if◌then◌else◌, refl, sym, ap, subst, ◌∙◌, append_assoc, arith}
use Rattle.kl_phrase.specs.Words.{heads, Phrase}
use Rattle.kl_phrase.specs.Readers.{Why, bad, deep, Out, ok, fail, Reader, after, taken, one, nothing, numbered, chain, both, behind, before, made, pick, goes, turns, loop, many}
use Rattle.kl_phrase.proofs.Theory.{Good, Sound, Fails, Begins}
use Rattle.kl_phrase.proofs.Kept.{Rests}
use Rattle.kl_phrase.proofs.Spelled.{Each, None}
use Rattle.kl_phrase.proofs.Plain.{Plains, plain}
use Rattle.kl_phrase.proofs.Rests.{Leaves, size, leaves_one, leaves_nothing, leaves_numbered, leaves_chain, leaves_pick, leaves_loop}

-- the last token is no such one
abbrev pub Last : {T : Type 0} → (T → Bool) → List T → Type 0
Last {T} test ts = (x : List T) × (t : T) × (ts ≡ x ++ t ∷ []) × (test t ≡ false)

-- where there are at most N tokens in all
pub record Ends {T A : Type 0} (test : T → Bool) (N : ℕ) (p : Reader T A) : Type 0 where
  pub ends : (ts : List T) → length ts ≤ N → p ts ≡ fail deep [] → Last test ts
  pub rests : Leaves p

module _ {T : Type 0} (test : T → Bool) (N : ℕ) where
  behind_front : (ts u r : List T) → ts ≡ u ++ r → Last test r → Last test ts
  behind_front ts u r e (x, t, f, h) = (u ++ x, t, e ∙ ap (λ z. u ++ z) f ∙ sym (append_assoc u x (t ∷ [])), h)

  pub ends_one : {A : Type 0} (f : T → Option A) → Ends test N (one f)
  ends_one {A} f = record { ends = λ ts le e. go ts e; rests = leaves_one f }
    where
      by : (t : T) (ts : List T) (o : Option A) → taken o t ts ≡ fail deep [] → Last test (t ∷ ts)
      by t ts Nil e = absurd cc
      by t ts (Some a) e = absurd cc

      go : (ts : List T) → one f ts ≡ fail deep [] → Last test ts
      go [] e = absurd cc
      go (t ∷ ts) e = by t ts (f t) e

  pub ends_nothing : {A : Type 0} (a : A) → Ends test N (nothing a)
  ends_nothing a = record { ends = λ ts le e. absurd cc; rests = leaves_nothing a }

  ends_after : {A B : Type 0} (ts : List T) (o : Out T A) (k : A → Reader T B) → length ts ≤ N → Rests ts o → (o ≡ fail deep [] → Last test ts) → ((a : A) → Ends test N (k a)) → after o k ≡ fail deep [] → Last test ts
  ends_after ts (ok a r) k le (u, eu) f g e = behind_front ts u r eu ((g a).ends r (let z = size ts u r eu in omega arith) e)
  ends_after {A} {B} ts (fail w r) k le re f g e = f (moved w r e)
    where
      moved : (w : Why) (r : List T) → Path (Out T B) (fail w r) (fail deep []) → Path (Out T A) (fail w r) (fail deep [])
      moved bad r e = absurd cc
      moved deep r e = let z : r ≡ [] = cc in ap (fail deep) z

  pub ends_numbered : {A : Type 0} (total : ℕ) {p : Reader T A} → Ends test N p → Ends test N (numbered total p)
  ends_numbered {A} total {p} h = record { ends = λ ts le e. ends_after ts (p ts) (λ a r. ok (total - length ts, a) r) le (h.rests.leaves ts) (λ z. h.ends ts le z) (λ a. record { ends = λ us le2 e2. absurd cc; rests = record { leaves = λ us. ([], refl) } }) e; rests = leaves_numbered total h.rests }

  pub ends_chain : {A B : Type 0} {p : Reader T A} {k : A → Reader T B} → Ends test N p → ((a : A) → Ends test N (k a)) → Ends test N (chain p k)
  ends_chain {A} {B} {p} {k} h f = record { ends = λ ts le e. ends_after ts (p ts) k le (h.rests.leaves ts) (λ z. h.ends ts le z) f e; rests = leaves_chain h.rests (λ a. (f a).rests) }

  pub ends_made : {A B : Type 0} (f : A → B) {p : Reader T A} → Ends test N p → Ends test N (made f p)
  ends_made f h = ends_chain h (λ a. ends_nothing (f a))

  pub ends_both : {A B : Type 0} {p : Reader T A} {q : Reader T B} → Ends test N p → Ends test N q → Ends test N (both p q)
  ends_both {A} {B} h k = ends_chain h (λ a. ends_made (λ (b : B). (a, b)) k)

  pub ends_behind : {A : Type 0} {p : Reader T (Unit {0})} {q : Reader T A} → Ends test N p → Ends test N q → Ends test N (behind p q)
  ends_behind h k = ends_chain h (λ _. k)

  pub ends_before : {A : Type 0} {p : Reader T A} {q : Reader T (Unit {0})} → Ends test N p → Ends test N q → Ends test N (before p q)
  ends_before {A} h k = ends_chain h (λ a. ends_made (λ (_ : Unit {0}). a) k)

  ends_either : {A : Type 0} (b : Bool) (ts : List T) (o q : Out T A) → (o ≡ fail deep [] → Last test ts) → (q ≡ fail deep [] → Last test ts) → (if b then o else q) ≡ fail deep [] → Last test ts
  ends_either true ts o q f g e = f e
  ends_either false ts o q f g e = g e

  pub ends_pick : {A : Type 0} (by : T → Bool) {p q : Reader T A} → Ends test N p → Ends test N q → Ends test N (pick by p q)
  ends_pick {A} by {p} {q} h k = record { ends = λ ts le e. ends_either (heads by ts) ts (p ts) (q ts) (λ z. h.ends ts le z) (λ z. k.ends ts le z) e; rests = leaves_pick h.rests k.rests }

  ends_goes : {A B : Type 0} (q : Reader T (List A × B)) → Ends test N q → (x : A ⊎ B) → Ends test N (λ r. goes x r q)
  ends_goes {A} {B} q h (inl a) = ends_chain h (λ y. ends_nothing (a ∷ y.0, y.1))
  ends_goes q h (inr b) = ends_nothing ([], b)

  ends_turn : {A B : Type 0} (p : Reader T (A ⊎ B)) (k : ℕ) → Ends test N (chain p (λ x r. goes x r (turns p k))) → Ends test N (turns p (suc k))
  ends_turn p k h = record { ends = λ ts le e. h.ends ts le e; rests = record { leaves = λ ts. h.rests.leaves ts } }

  ends_turns : {A B : Type 0} (p : Reader T (A ⊎ B)) → Ends test N p → (k : ℕ) → Ends test N (turns p k)
  ends_turns p h zero = record { ends = λ ts le e. absurd cc; rests = record { leaves = λ ts. ([], refl) } }
  ends_turns p h (suc k) = ends_turn p k (ends_chain h (ends_goes (turns p k) (ends_turns p h k)))

  pub ends_many : {A : Type 0} (by : T → Bool) {p : Reader T A} → Ends test N p → Ends test N (many by p)
  ends_many {A} by {p} h = ends_made (λ (x : List A × Unit {0}). x.0) (looped (ends_pick by (ends_made inl h) (ends_made inr (ends_nothing (tt {0})))))
    where
      looped : {B C : Type 0} {q : Reader T (B ⊎ C)} → Ends test N q → Ends test N (loop q)
      looped {B} {C} {q} g = record { ends = λ ts le e. (ends_turns q g (suc (length ts))).ends ts le e; rests = leaves_loop g.rests }

  -- ---- a reader whose texts have no such token

  last_of : (t : T) (ts more : List T) → None test ((t ∷ ts) ++ more) → Last test (t ∷ ts)
  last_of t [] more h = ([], t, refl, h.0)
  last_of t (s ∷ ts) more h = behind_front (t ∷ s ∷ ts) (t ∷ []) (s ∷ ts) refl (last_of s ts more h.1)

  pub ends_open : {A : Type 0} {S W : Phrase T A} {C : List T → Type 0} {p f : Reader T A} → Plains p f → Good N S W C f → Each (None test) W → (p [] ≡ fail deep [] → ⊥) → Leaves p → Ends test N p
  ends_open {A} {S} {W} {C} {p} {f} pl g no_such nil l = record { ends = go; rests = l }
    where
      begun : (m : ℕ) (t : T) (ts : List T) → Begins W m (t ∷ ts) → Last test (t ∷ ts)
      begun m t ts (inl z) = absurd cc
      begun m t ts (inr (more, a, h)) = last_of t ts more (no_such m a ((t ∷ ts) ++ more) h)

      by : (m : ℕ) (t : T) (ts : List T) → Fails W m (t ∷ ts) bad [] → Last test (t ∷ ts)
      by m t ts (u, s, v, eu, er, z, b) = begun m t ts (subst (Begins W m) (ap (λ (y : List T). u ++ y) z ∙ sym eu) b)

      go : (ts : List T) → length ts ≤ N → p ts ≡ fail deep [] → Last test ts
      go [] le e = absurd (nil e)
      go (t ∷ ts) le e = by (N - length (t ∷ ts)) t ts (subst (λ (o : Out T A). Sound S W (N - length (t ∷ ts)) (t ∷ ts) o) (pl.plains (t ∷ ts) ∙ ap plain e) (g.sound (N - length (t ∷ ts)) (t ∷ ts) (omega arith)))

  pub last_is : (x y : List T) (t s : T) → x ++ s ∷ [] ≡ y ++ t ∷ [] → test s ≡ true → test t ≡ false → ⊥
  last_is [] [] t s e h f = let k : s ≡ t = cc in let z : true ≡ false = sym h ∙ ap test k ∙ f in cc
  last_is [] (b ∷ []) t s e h f = cc
  last_is [] (b ∷ c ∷ y) t s e h f = cc
  last_is (a ∷ []) [] t s e h f = cc
  last_is (a ∷ b ∷ x) [] t s e h f = cc
  last_is (a ∷ x) (b ∷ y) t s e h f = let k : x ++ s ∷ [] ≡ y ++ t ∷ [] = cc in last_is x y t s k h f
