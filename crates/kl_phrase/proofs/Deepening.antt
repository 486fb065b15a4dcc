-- What nests too deep stands behind so many tokens.
use Rattle.std.proofs.Common.{◌≡◌, ℕ, zero, suc, ◌≤◌, ◌+◌, ◌-◌, Bool, true, false, IsTrue, List, [], ◌∷◌, length, Option, Some, None, ◌⊎◌, inl, inr, if◌then◌else◌, refl, arith}
use Rattle.kl_phrase.specs.Words.{heads, list_of}
use Rattle.kl_phrase.specs.Readers.{bad, deep, Out, ok, fail, Reader, after, taken, one, nothing, numbered, chain, both, behind, before, made, pick, goes, turns, loop, many, parted, dots_end, tailed, followed, farther}
use Rattle.kl_phrase.proofs.Kept.{Rests}
use Rattle.kl_phrase.specs.Refusals.{opened_by, settled, decide}
use Rattle.kl_phrase.proofs.Deciding.{far_least}
use Rattle.kl_phrase.proofs.Rests.{Leaves, size, leaves_one, leaves_numbered, leaves_chain, leaves_nothing, leaves_pick, leaves_failing, leaves_loop, leaves_decide}

module _ {T : Type 0} where
  abbrev pub Deep : {A : Type 0} → ℕ → List T → Out T A → Type 0
  Deep n ts (ok a r) = Unit {0}
  Deep n ts (fail bad r) = Unit {0}
  Deep n ts (fail deep r) = n + length r ≤ length ts

pub record Deepens {T A : Type 0} (n : ℕ) (p : Reader T A) : Type 0 where
  pub deepens : (ts : List T) → Deep n ts (p ts)
  pub rests : Leaves p

module _ {T : Type 0} where
  deep_one : {A : Type 0} (n : ℕ) (f : T → Option A) (ts : List T) → Deep n ts (one f ts)
  deep_one n f [] = tt
  deep_one {A} n f (t ∷ ts) = go (f t)
    where
      go : (o : Option A) → Deep n (t ∷ ts) (taken o t ts)
      go None = tt
      go (Some a) = tt

  further : {A : Type 0} (n m k : ℕ) (ts r : List T) (o : Out T A) → k ≡ m + n → m + length r ≤ length ts → Deep n r o → Deep k ts o
  further n m k ts r (ok a s) ek le h = tt
  further n m k ts r (fail bad s) ek le h = tt
  further n m k ts r (fail deep s) ek le h = let i : n + length s ≤ length r = h in let g : k + length s ≤ length ts = omega arith in g

  deep_after : {A B : Type 0} (n : ℕ) (ts : List T) (o : Out T A) (k : A → Reader T B) → Rests ts o → Deep n ts o → ((a : A) (r : List T) → Deep n r (k a r)) → Deep n ts (after o k)
  deep_after n ts (ok a r) k (u, e) h f = further n 0 n ts r (k a r) (let z : n ≡ 0 + n = omega arith in z) (let z = size ts u r e in omega arith) (f a r)
  deep_after n ts (fail bad r) k re h f = tt
  deep_after n ts (fail deep r) k re h f = h

  deep_either : {A : Type 0} (n : ℕ) (b : Bool) (ts : List T) (o q : Out T A) → Deep n ts o → Deep n ts q → Deep n ts (if b then o else q)
  deep_either n true ts o q h k = h
  deep_either n false ts o q h k = k

  nearer : (n : ℕ) (ts r s : List T) → n + length r ≤ length ts → length s ≤ length r → n + length s ≤ length ts
  nearer n ts r s h le = omega arith

  deep_settled : {A C : Type 0} (n : ℕ) (ts : List T) (o : Out T A) (x q : Out T C) → Deep n ts o → Deep n ts x → Deep n ts q → Deep n ts (settled o x q)
  deep_settled n ts (ok a r) x q h i k = i
  deep_settled n ts (fail w r) x (ok c s) h i k = tt
  deep_settled n ts (fail bad r) x (fail bad s) h i k = tt
  deep_settled n ts (fail bad r) x (fail deep s) h i k = nearer n ts s (farther r s) k (far_least r s).1
  deep_settled n ts (fail deep r) x (fail v s) h i k = nearer n ts r (farther r s) h (far_least r s).0

module _ {T : Type 0} {n : ℕ} where
  pub deepens_one : {A : Type 0} (f : T → Option A) → Deepens n (one f)
  deepens_one f = record { deepens = deep_one n f; rests = leaves_one f }

  pub deepens_nothing : {A : Type 0} (a : A) → Deepens {T = T} n (nothing a)
  deepens_nothing a = record { deepens = λ ts. tt; rests = leaves_nothing a }

  pub deepens_numbered : {A : Type 0} (total : ℕ) {p : Reader T A} → Deepens n p → Deepens n (numbered total p)
  deepens_numbered {A} total {p} h = record { deepens = λ ts. deep_after n ts (p ts) (λ a r. ok (total - length ts, a) r) (h.rests.leaves ts) (h.deepens ts) (λ a r. tt); rests = leaves_numbered total h.rests }

  pub deepens_chain : {A B : Type 0} {p : Reader T A} {k : A → Reader T B} → Deepens n p → ((a : A) → Deepens n (k a)) → Deepens n (chain p k)
  deepens_chain {A} {B} {p} {k} h f = record { deepens = λ ts. deep_after n ts (p ts) k (h.rests.leaves ts) (h.deepens ts) (λ a r. (f a).deepens r); rests = leaves_chain h.rests (λ a. (f a).rests) }

  pub deepens_made : {A B : Type 0} (f : A → B) {p : Reader T A} → Deepens n p → Deepens n (made f p)
  deepens_made f h = deepens_chain h (λ a. deepens_nothing (f a))

  pub deepens_both : {A B : Type 0} {p : Reader T A} {q : Reader T B} → Deepens n p → Deepens n q → Deepens n (both p q)
  deepens_both {A} {B} h k = deepens_chain h (λ a. deepens_made (λ (b : B). (a, b)) k)

  pub deepens_behind : {A : Type 0} {p : Reader T (Unit {0})} {q : Reader T A} → Deepens n p → Deepens n q → Deepens n (behind p q)
  deepens_behind h k = deepens_chain h (λ _. k)

  pub deepens_before : {A : Type 0} {p : Reader T A} {q : Reader T (Unit {0})} → Deepens n p → Deepens n q → Deepens n (before p q)
  deepens_before {A} h k = deepens_chain h (λ a. deepens_made (λ (_ : Unit {0}). a) k)

  -- behind one token it is one deeper
  pub deepens_past : {A : Type 0} (f : T → Option (Unit {0})) {q : Reader T A} → Deepens n q → Deepens (suc n) (behind (one f) q)
  deepens_past {A} f {q} h = record { deepens = go; rests = leaves_chain (leaves_one f) (λ _. h.rests) }
    where
      by : (t : T) (ts : List T) (o : Option (Unit {0})) → Deep (suc n) (t ∷ ts) (after (taken o t ts) (λ _ r. q r))
      by t ts None = tt
      by t ts (Some x) = further n 1 (suc n) (t ∷ ts) ts (q ts) (let z : suc n ≡ 1 + n = omega arith in z) (omega arith) (h.deepens ts)

      go : (ts : List T) → Deep (suc n) ts (behind (one f) q ts)
      go [] = tt
      go (t ∷ ts) = by t ts (f t)

  pub deepens_pick : {A : Type 0} {test : T → Bool} {p q : Reader T A} → Deepens n p → Deepens n q → Deepens n (pick test p q)
  deepens_pick {A} {test} {p} {q} h k = record { deepens = λ ts. deep_either n (heads test ts) ts (p ts) (q ts) (h.deepens ts) (k.deepens ts); rests = leaves_pick h.rests k.rests }

  pub deepens_failing : {A : Type 0} → Deepens {T = T} {A = A} n (λ (ts : List T). fail bad ts)
  deepens_failing = record { deepens = λ ts. tt; rests = leaves_failing bad }

  pub deepens_opened : {A : Type 0} (may : Bool) {p : Reader T A} → (IsTrue may → Deepens n p) → (may ≡ false → n ≡ 0) → Deepens n (opened_by deep may p)
  deepens_opened true h z = record { deepens = λ ts. (h refl).deepens ts; rests = record { leaves = λ ts. (h refl).rests.leaves ts } }
  deepens_opened false h z = record { deepens = λ ts. let k : n ≡ 0 = z refl in let g : n + length ts ≤ length ts = omega arith in g; rests = record { leaves = λ ts. ([], refl) } }

  deepens_goes : {A B : Type 0} (q : Reader T (List A × B)) → Deepens n q → (x : A ⊎ B) → Deepens n (λ r. goes x r q)
  deepens_goes {A} {B} q h (inl a) = deepens_chain h (λ y. deepens_nothing (a ∷ y.0, y.1))
  deepens_goes q h (inr b) = deepens_nothing ([], b)

  deepens_turn : {A B : Type 0} (p : Reader T (A ⊎ B)) (k : ℕ) → Deepens n (chain p (λ x r. goes x r (turns p k))) → Deepens n (turns p (suc k))
  deepens_turn p k h = record { deepens = λ ts. h.deepens ts; rests = record { leaves = λ ts. h.rests.leaves ts } }

  deepens_turns : {A B : Type 0} (p : Reader T (A ⊎ B)) → Deepens n p → (k : ℕ) → Deepens n (turns p k)
  deepens_turns p h zero = record { deepens = λ ts. tt; rests = record { leaves = λ ts. ([], refl) } }
  deepens_turns p h (suc k) = deepens_turn p k (deepens_chain h (deepens_goes (turns p k) (deepens_turns p h k)))

  pub deepens_loop : {A B : Type 0} {p : Reader T (A ⊎ B)} → Deepens n p → Deepens n (loop p)
  deepens_loop {A} {B} {p} h = record { deepens = λ ts. (deepens_turns p h (suc (length ts))).deepens ts; rests = leaves_loop h.rests }

  pub deepens_many : {A : Type 0} {test : T → Bool} {p : Reader T A} → Deepens n p → Deepens n (many test p)
  deepens_many {A} h = deepens_made (λ (x : List A × Unit {0}). x.0) (deepens_loop (deepens_pick (deepens_made inl h) (deepens_made inr (deepens_nothing (tt {0})))))

  pub deepens_parted : {A : Type 0} (test : T → Bool) {m : Reader T (Unit {0})} {p : Reader T A} → Deepens n m → Deepens n p → Deepens n (parted test m p)
  deepens_parted test hm hp = deepens_made list_of (deepens_both hp (deepens_many (deepens_behind hm hp)))

  pub deepens_tailed : {A B : Type 0} (test dots : T → Bool) {m : Reader T (Unit {0})} {d : Reader T B} {p : Reader T A} → Deepens n m → Deepens n p → Deepens n d → Deepens n (tailed test dots m p d)
  deepens_tailed test dots hm hp hd = deepens_loop (deepens_pick (deepens_behind hm (deepens_pick (deepens_made dots_end hd) (deepens_made inl hp))) (deepens_nothing (inr None)))

  pub deepens_followed : {A : Type 0} (test : T → Bool) {p : Reader T A} → Deepens n p → Deepens n (followed test p)
  deepens_followed test h = deepens_chain h (λ a. deepens_pick (deepens_nothing a) deepens_failing)

  pub deepens_decide : {A B C : Type 0} (f : A × B → C) {p : Reader T A} {k : Reader T B} {q : Reader T C} → Deepens n p → Deepens n k → Deepens n q → Deepens n (decide f p k q)
  deepens_decide f {p} {k} {q} hp hk hq = record { deepens = λ ts. deep_settled n ts (p ts) (made f (both p k) ts) (q ts) (hp.deepens ts) ((deepens_made f (deepens_both hp hk)).deepens ts) (hq.deepens ts); rests = leaves_decide f hp.rests hk.rests hq.rests }
