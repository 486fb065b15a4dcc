-- The rest that a reader answers is one of the text.
use Rattle.std.proofs.Common.{◌≡◌, ℕ, zero, suc, ◌≤◌, ◌+◌, ◌-◌, Bool, List, [], ◌∷◌, ◌++◌, length, ◌⊎◌, inl, inr, refl, ap, ◌∙◌, length-append, arith}
use Rattle.kl_phrase.specs.Words.{heads}
use Rattle.kl_phrase.specs.Readers.{Why, Out, ok, fail, Reader, after, one, nothing, numbered, chain, pick, goes, turns, loop}
use Rattle.kl_phrase.proofs.Theory.{joined}
use Rattle.kl_phrase.proofs.Kept.{Rests, keeps_one, pick_rests}
use Rattle.kl_phrase.proofs.Exact.{IsBad}
use Rattle.kl_phrase.specs.Refusals.{decide}
use Rattle.kl_phrase.proofs.Deciding.{decide_rests}

pub record Leaves {T A : Type 0} (p : Reader T A) : Type 0 where
  pub leaves : (ts : List T) → Rests ts (p ts)

module _ {T : Type 0} where
  abbrev pub left : {A : Type 0} → Out T A → List T
  left (ok a r) = r
  left (fail w r) = r

  pub size : (ts u r : List T) → ts ≡ u ++ r → length r ≤ length ts
  size ts u r e = let k : length ts ≡ length u + length r = ap length e ∙ length-append u r in omega arith

  pub no_more : {A : Type 0} (ts : List T) (o : Out T A) → Rests ts o → length (left o) ≤ length ts
  no_more ts (ok a r) (u, e) = size ts u r e
  no_more ts (fail w r) (u, e) = size ts u r e

  pub leaves_one : {A : Type 0} (f : T → Rattle.std.specs.Prelude.Option A) → Leaves (one f)
  leaves_one f = record { leaves = λ ts. (keeps_one {Q = IsBad} {N = 0} {M = 0} f).rests ts }

  pub leaves_nothing : {A : Type 0} (a : A) → Leaves {T = T} (nothing a)
  leaves_nothing a = record { leaves = λ ts. ([], refl) }

  further : {A : Type 0} (ts u r : List T) (o : Out T A) → ts ≡ u ++ r → Rests r o → Rests ts o
  further ts u r (ok b s) e (v, h) = (u ++ v, joined ts u r v s e h)
  further ts u r (fail w s) e (v, h) = (u ++ v, joined ts u r v s e h)

  leaves_after : {A B : Type 0} (ts : List T) (o : Out T A) (k : A → Reader T B) → Rests ts o → ((a : A) (r : List T) → Rests r (k a r)) → Rests ts (after o k)
  leaves_after ts (ok a r) k (u, e) f = further ts u r (k a r) e (f a r)
  leaves_after ts (fail w r) k h f = h

  pub leaves_numbered : {A : Type 0} (total : ℕ) {p : Reader T A} → Leaves p → Leaves (numbered total p)
  leaves_numbered {A} total {p} h = record { leaves = λ ts. leaves_after ts (p ts) (λ a r. ok (total - length ts, a) r) (h.leaves ts) (λ a r. ([], refl)) }

  pub leaves_chain : {A B : Type 0} {p : Reader T A} {k : A → Reader T B} → Leaves p → ((a : A) → Leaves (k a)) → Leaves (chain p k)
  leaves_chain {A} {B} {p} {k} h f = record { leaves = λ ts. leaves_after ts (p ts) k (h.leaves ts) (λ a r. (f a).leaves r) }

  pub leaves_pick : {A : Type 0} {test : T → Bool} {p q : Reader T A} → Leaves p → Leaves q → Leaves (pick test p q)
  leaves_pick {A} {test} {p} {q} h k = record { leaves = λ ts. pick_rests (heads test ts) ts (p ts) (q ts) (h.leaves ts) (k.leaves ts) }

  pub leaves_failing : {A : Type 0} (w : Why) → Leaves {A = A} (λ (ts : List T). fail w ts)
  leaves_failing w = record { leaves = λ ts. ([], refl) }

  leaves_goes : {A B : Type 0} (x : A ⊎ B) (r : List T) (q : Reader T (List A × B)) → ((ts : List T) → Rests ts (q ts)) → Rests r (goes x r q)
  leaves_goes (inl a) r q h = leaves_after r (q r) (λ x s. ok (a ∷ x.0, x.1) s) (h r) (λ x s. ([], refl))
  leaves_goes (inr b) r q h = ([], refl)

  pub leaves_turns : {A B : Type 0} (p : Reader T (A ⊎ B)) → Leaves p → (k : ℕ) (ts : List T) → Rests ts (turns p k ts)
  leaves_turns p h zero ts = ([], refl)
  leaves_turns p h (suc k) ts = leaves_after ts (p ts) (λ x r. goes x r (turns p k)) (h.leaves ts) (λ x r. leaves_goes x r (turns p k) (leaves_turns p h k))

  pub leaves_loop : {A B : Type 0} {p : Reader T (A ⊎ B)} → Leaves p → Leaves (loop p)
  leaves_loop {A} {B} {p} h = record { leaves = λ ts. leaves_turns p h (suc (length ts)) ts }

  pub leaves_decide : {A B C : Type 0} (f : A × B → C) {p : Reader T A} {k : Reader T B} {q : Reader T C} → Leaves p → Leaves k → Leaves q → Leaves (decide f p k q)
  leaves_decide f {p} {k} {q} hp hk hq = record { leaves = decide_rests f p k q hp.leaves hk.leaves hq.leaves }
