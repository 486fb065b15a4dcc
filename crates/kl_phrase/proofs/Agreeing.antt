-- A reader in which parts may be left out, where a test of the rest says so, answers the same as one in which none may, if
-- the test holds of no rest that it comes to.
use Rattle.std.proofs.Common.{◌≡◌, ℕ, zero, suc, ◌<◌, Bool, true, false, IsTrue, List, [], ◌∷◌, ◌++◌, length, None, ◌⊎◌, inl, inr, if◌then◌else◌, refl, sym, ap, subst, ◌∙◌, append_assoc, arith}
use Rattle.kl_phrase.specs.Words.{heads, list_of}
use Rattle.kl_phrase.specs.Readers.{Why, bad, Out, ok, fail, Reader, after, nothing, chain, both, behind, before, made, pick, choose, goes, turns, loop, many, parted, dots_end, tailed, followed, farther}
use Rattle.kl_phrase.proofs.Kept.{Rests}
use Rattle.kl_phrase.specs.Refusals.{opened_by, refused, settled, decide}
use Rattle.kl_phrase.proofs.Deciding.{far_least}
use Rattle.kl_phrase.proofs.Rests.{Leaves, left, no_more, leaves_chain, leaves_nothing, leaves_pick, leaves_failing, leaves_loop, leaves_decide}

module _ {T : Type 0} where
  -- of no rest longer than h
  abbrev pub Clear : (List T → Bool) → ℕ → List T → Type 0
  Clear hole h ts = (u r : List T) → ts ≡ u ++ r → h < length r → hole r ≡ false

  pub clear_rest : (hole : List T → Bool) (h : ℕ) (ts u r : List T) → ts ≡ u ++ r → Clear hole h ts → Clear hole h r
  clear_rest hole h ts u r e c v s f lt = c (u ++ v) s (e ∙ ap (λ z. u ++ z) f ∙ sym (append_assoc u v s)) lt

pub record Agrees {T A : Type 0} (hole : List T → Bool) (h : ℕ) (p g : Reader T A) : Type 0 where
  pub agrees : (ts : List T) → Clear hole h ts → h < length (left (p ts)) → g ts ≡ p ts
  pub rests : Leaves p

module _ {T : Type 0} where
  agrees_either : {A : Type 0} (h : ℕ) (b : Bool) (o q g k : Out T A) → (h < length (left o) → g ≡ o) → (h < length (left q) → k ≡ q) → h < length (left (if b then o else q)) → (if b then g else k) ≡ (if b then o else q)
  agrees_either h true o q g k f e lt = f lt
  agrees_either h false o q g k f e lt = e lt

module _ {T : Type 0} {hole : List T → Bool} {h : ℕ} where
  pub agrees_same : {A : Type 0} {p : Reader T A} → Leaves p → Agrees hole h p p
  agrees_same l = record { agrees = λ ts c lt. refl; rests = l }

  agrees_after : {A B : Type 0} (ts : List T) (o g : Out T A) (k j : A → Reader T B) → Rests ts o → Clear hole h ts → (h < length (left o) → g ≡ o) → ((a : A) → Agrees hole h (k a) (j a)) → h < length (left (after o k)) → after g j ≡ after o k
  agrees_after ts (ok a r) g k j (u, e) c f ak lt = rw (f (let z = no_more r (k a r) ((ak a).rests.leaves r) in omega arith)) ((ak a).agrees r (clear_rest hole h ts u r e c) lt)
  agrees_after ts (fail w r) g k j re c f ak lt = rw (f lt) refl

  pub agrees_chain : {A B : Type 0} {p g : Reader T A} {k j : A → Reader T B} → Agrees hole h p g → ((a : A) → Agrees hole h (k a) (j a)) → Agrees hole h (chain p k) (chain g j)
  agrees_chain {A} {B} {p} {g} {k} {j} ap ak = record { agrees = λ ts c lt. agrees_after ts (p ts) (g ts) k j (ap.rests.leaves ts) c (λ l. ap.agrees ts c l) ak lt; rests = leaves_chain ap.rests (λ a. (ak a).rests) }

  pub agrees_nothing : {A : Type 0} (a : A) → Agrees hole h (nothing a) (nothing a)
  agrees_nothing a = agrees_same (leaves_nothing a)

  pub agrees_made : {A B : Type 0} (f : A → B) {p g : Reader T A} → Agrees hole h p g → Agrees hole h (made f p) (made f g)
  agrees_made f a = agrees_chain a (λ x. agrees_nothing (f x))

  pub agrees_both : {A B : Type 0} {p g : Reader T A} {q k : Reader T B} → Agrees hole h p g → Agrees hole h q k → Agrees hole h (both p q) (both g k)
  agrees_both {A} {B} a b = agrees_chain a (λ x. agrees_made (λ (y : B). (x, y)) b)

  pub agrees_behind : {A : Type 0} {p g : Reader T (Unit {0})} {q k : Reader T A} → Agrees hole h p g → Agrees hole h q k → Agrees hole h (behind p q) (behind g k)
  agrees_behind a b = agrees_chain a (λ _. b)

  pub agrees_before : {A : Type 0} {p g : Reader T A} {q k : Reader T (Unit {0})} → Agrees hole h p g → Agrees hole h q k → Agrees hole h (before p q) (before g k)
  agrees_before {A} a b = agrees_chain a (λ x. agrees_made (λ (_ : Unit {0}). x) b)

  pub agrees_pick : {A : Type 0} {test : T → Bool} {p g q k : Reader T A} → Agrees hole h p g → Agrees hole h q k → Agrees hole h (pick test p q) (pick test g k)
  agrees_pick {A} {test} {p} {g} {q} {k} a b = record { agrees = λ ts c lt. agrees_either h (heads test ts) (p ts) (q ts) (g ts) (k ts) (λ l. a.agrees ts c l) (λ l. b.agrees ts c l) lt; rests = leaves_pick a.rests b.rests }

  pub agrees_opened : {A : Type 0} (w : Why) (may : Bool) {p g : Reader T A} → (IsTrue may → Agrees hole h p g) → Agrees hole h (opened_by w may p) (opened_by w may g)
  agrees_opened w true a = record { agrees = λ ts c lt. (a refl).agrees ts c lt; rests = record { leaves = λ ts. (a refl).rests.leaves ts } }
  agrees_opened {A} w false a = record { agrees = λ ts c lt. refl; rests = record { leaves = λ ts. ([], refl) } }

  agrees_goes : {A B : Type 0} (q k : Reader T (List A × B)) → Agrees hole h q k → (x : A ⊎ B) → Agrees hole h (λ r. goes x r q) (λ r. goes x r k)
  agrees_goes {A} {B} q k a (inl x) = agrees_chain a (λ y. agrees_nothing (x ∷ y.0, y.1))
  agrees_goes q k a (inr b) = agrees_nothing ([], b)

  agrees_turn : {A B : Type 0} (p g : Reader T (A ⊎ B)) (k : ℕ) → Agrees hole h (chain p (λ x r. goes x r (turns p k))) (chain g (λ x r. goes x r (turns g k))) → Agrees hole h (turns p (suc k)) (turns g (suc k))
  agrees_turn p g k a = record { agrees = λ ts c lt. a.agrees ts c lt; rests = record { leaves = λ ts. a.rests.leaves ts } }

  agrees_turns : {A B : Type 0} (p g : Reader T (A ⊎ B)) → Agrees hole h p g → (k : ℕ) → Agrees hole h (turns p k) (turns g k)
  agrees_turns p g a zero = record { agrees = λ ts c lt. refl; rests = record { leaves = λ ts. ([], refl) } }
  agrees_turns p g a (suc k) = agrees_turn p g k (agrees_chain a (agrees_goes (turns p k) (turns g k) (agrees_turns p g a k)))

  pub agrees_loop : {A B : Type 0} {p g : Reader T (A ⊎ B)} → Agrees hole h p g → Agrees hole h (loop p) (loop g)
  agrees_loop {A} {B} {p} {g} a = record { agrees = λ ts c lt. (agrees_turns p g a (suc (length ts))).agrees ts c lt; rests = leaves_loop a.rests }

  pub agrees_many : {A : Type 0} {test : T → Bool} {p g : Reader T A} → Agrees hole h p g → Agrees hole h (many test p) (many test g)
  agrees_many {A} a = agrees_made (λ (x : List A × Unit {0}). x.0) (agrees_loop (agrees_pick (agrees_made inl a) (agrees_made inr (agrees_nothing (tt {0})))))

  pub agrees_parted : {A : Type 0} (test : T → Bool) {m n : Reader T (Unit {0})} {p g : Reader T A} → Agrees hole h m n → Agrees hole h p g → Agrees hole h (parted test m p) (parted test n g)
  agrees_parted test a b = agrees_made list_of (agrees_both b (agrees_many (agrees_behind a b)))

  pub agrees_tailed : {A B : Type 0} (test dots : T → Bool) {m n : Reader T (Unit {0})} {p g : Reader T A} {d e : Reader T B} → Agrees hole h m n → Agrees hole h p g → Agrees hole h d e → Agrees hole h (tailed test dots m p d) (tailed test dots n g e)
  agrees_tailed test dots am ap ad = agrees_loop (agrees_pick (agrees_behind am (agrees_pick (agrees_made dots_end ad) (agrees_made inl ap))) (agrees_nothing (inr None)))

  pub agrees_followed : {A : Type 0} (test : T → Bool) {p g : Reader T A} → Agrees hole h p g → Agrees hole h (followed test p) (followed test g)
  agrees_followed test a = agrees_chain a (λ x. agrees_pick (agrees_nothing x) (agrees_same (leaves_failing bad)))

  -- the first reader leaves out nothing
  pub agrees_decide : {A B C : Type 0} (f : A × B → C) {p : Reader T A} {k j : Reader T B} {q g : Reader T C} → Leaves p → Agrees hole h k j → Agrees hole h q g → Agrees hole h (decide f p k q) (decide f p j g)
  agrees_decide {A} {B} {C} f {p} {k} {j} {q} {g} lp ak aq = record { agrees = λ ts c lt. go ts c (p ts) refl lt; rests = leaves_decide f lp ak.rests aq.rests }
    where
      by_second : (ts : List T) → Clear hole h ts → (w : Why) (r : List T) (o : Out T C) → q ts ≡ o → h < length (left (refused w r o)) → refused w r (g ts) ≡ refused w r o
      by_second ts c w r (ok b s) e lt = ap (refused w r) (aq.agrees ts c (subst (λ (z : Out T C). h < length (left z)) (sym e) lt) ∙ e)
      by_second ts c w r (fail v s) e lt = ap (refused w r) (aq.agrees ts c (subst (λ (z : Out T C). h < length (left z)) (sym e) (let z = (far_least r s).1 in let k : h < length (farther r s) = lt in let g : h < length s = omega arith in g)) ∙ e)

      one_way : Agrees hole h (made f (both p k)) (made f (both p j))
      one_way = agrees_made f (agrees_both (agrees_same lp) ak)

      go : (ts : List T) → Clear hole h ts → (o : Out T A) → p ts ≡ o → h < length (left (settled o (made f (both p k) ts) (q ts))) → settled o (made f (both p j) ts) (g ts) ≡ settled o (made f (both p k) ts) (q ts)
      go ts c (ok a r) e lt = one_way.agrees ts c lt
      go ts c (fail w r) e lt = by_second ts c w r (q ts) refl lt

  -- where a part may be left out
  pub agrees_hole : {A : Type 0} (x : Reader T A) {p g : Reader T A} → Agrees hole h p g → Agrees hole h p (choose hole x g)
  agrees_hole {A} x {p} {g} a = record { agrees = λ ts c lt. rw (c [] ts refl (let z = no_more ts (p ts) (a.rests.leaves ts) in omega arith)) (a.agrees ts c lt); rests = a.rests }
