-- Beside the descent goes a plain one, which answers the same, but calls each failure a plain one.
use Rattle.std.proofs.Common.{◌≡◌, ℕ, zero, suc, ◌-◌, Bool, true, false, List, [], ◌∷◌, length, Option, Some, None, ◌⊎◌, inl, inr, if◌then◌else◌, refl, sym, subst, ◌∙◌}
use Rattle.kl_phrase.specs.Words.{heads, list_of}
use Rattle.kl_phrase.specs.Readers.{Why, bad, Out, ok, fail, Reader, after, taken, one, nothing, numbered, chain, both, behind, before, made, pick, choose, goes, turns, loop, upto, many, parted, dots_end, tailed, followed}
use Rattle.kl_phrase.specs.Refusals.{opened_by, refused, settled, decide}
use Rattle.kl_phrase.proofs.Deciding.{Flat}

module _ {T : Type 0} where
  abbrev pub plain : {A : Type 0} → Out T A → Out T A
  plain (ok a r) = ok a r
  plain (fail w r) = fail bad r

pub record Plains {T A : Type 0} (p q : Reader T A) : Type 0 where
  pub plains : (ts : List T) → q ts ≡ plain (p ts)

module _ {T : Type 0} where
  plain_taken : {A : Type 0} (t : T) (ts : List T) (o : Option A) → taken o t ts ≡ plain (taken o t ts)
  plain_taken t ts None = refl
  plain_taken t ts (Some a) = refl

  plain_one_at : {A : Type 0} (f : T → Option A) (ts : List T) → one f ts ≡ plain (one f ts)
  plain_one_at f [] = refl
  plain_one_at f (t ∷ ts) = plain_taken t ts (f t)

  pub plain_one : {A : Type 0} (f : T → Option A) → Plains (one f) (one f)
  plain_one f = record { plains = plain_one_at f }

  pub plain_nothing : {A : Type 0} (a : A) → Plains {T = T} (nothing a) (nothing a)
  plain_nothing a = record { plains = λ ts. refl }

  plain_after : {A B : Type 0} (o q : Out T A) (k j : A → Reader T B) → q ≡ plain o → ((a : A) (r : List T) → j a r ≡ plain (k a r)) → after q j ≡ plain (after o k)
  plain_after (ok a r) q k j h f = rw h (f a r)
  plain_after (fail w r) q k j h f = rw h refl

  pub plain_numbered : {A : Type 0} (total : ℕ) {p q : Reader T A} → Plains p q → Plains (numbered total p) (numbered total q)
  plain_numbered {A} total {p} {q} h = record { plains = λ ts. plain_after (p ts) (q ts) (λ a r. ok (total - length ts, a) r) (λ a r. ok (total - length ts, a) r) (h.plains ts) (λ a r. refl) }

  pub plain_chain : {A B : Type 0} {p q : Reader T A} {k j : A → Reader T B} → Plains p q → ((a : A) → Plains (k a) (j a)) → Plains (chain p k) (chain q j)
  plain_chain {A} {B} {p} {q} {k} {j} h f = record { plains = λ ts. plain_after (p ts) (q ts) k j (h.plains ts) (λ a r. (f a).plains r) }

  pub plain_made : {A B : Type 0} (f : A → B) {p q : Reader T A} → Plains p q → Plains (made f p) (made f q)
  plain_made f h = plain_chain h (λ a. plain_nothing (f a))

  pub plain_both : {A B : Type 0} {p q : Reader T A} {r s : Reader T B} → Plains p q → Plains r s → Plains (both p r) (both q s)
  plain_both {A} {B} h k = plain_chain h (λ a. plain_made (λ (b : B). (a, b)) k)

  pub plain_behind : {A : Type 0} {p q : Reader T (Unit {0})} {r s : Reader T A} → Plains p q → Plains r s → Plains (behind p r) (behind q s)
  plain_behind h k = plain_chain h (λ _. k)

  pub plain_before : {A : Type 0} {p q : Reader T A} {r s : Reader T (Unit {0})} → Plains p q → Plains r s → Plains (before p r) (before q s)
  plain_before {A} h k = plain_chain h (λ a. plain_made (λ (_ : Unit {0}). a) k)

  plain_either : {A : Type 0} (b : Bool) (o q o' q' : Out T A) → o' ≡ plain o → q' ≡ plain q → (if b then o' else q') ≡ plain (if b then o else q)
  plain_either true o q o' q' h k = h
  plain_either false o q o' q' h k = k

  pub plain_pick : {A : Type 0} {test : T → Bool} {p q p' q' : Reader T A} → Plains p p' → Plains q q' → Plains (pick test p q) (pick test p' q')
  plain_pick {A} {test} {p} {q} {p'} {q'} h k = record { plains = λ ts. plain_either (heads test ts) (p ts) (q ts) (p' ts) (q' ts) (h.plains ts) (k.plains ts) }

  pub plain_choose : {A : Type 0} (test : List T → Bool) {p q p' q' : Reader T A} → Plains p p' → Plains q q' → Plains (choose test p q) (choose test p' q')
  plain_choose {A} test {p} {q} {p'} {q'} h k = record { plains = λ ts. plain_either (test ts) (p ts) (q ts) (p' ts) (q' ts) (h.plains ts) (k.plains ts) }

  pub plain_failing : {A : Type 0} (w : Why) → Plains {A = A} (λ (ts : List T). fail w ts) (λ (ts : List T). fail bad ts)
  plain_failing w = record { plains = λ ts. refl }

  pub plain_opened_by : {A : Type 0} (w : Why) (may : Bool) {p p' : Reader T A} → Plains p p' → Plains (opened_by w may p) (opened_by bad may p')
  plain_opened_by {A} w may {p} {p'} h = record { plains = λ ts. plain_either may (p ts) (fail w ts) (p' ts) (fail bad ts) (h.plains ts) refl }

  plain_goes : {A B : Type 0} (x : A ⊎ B) (r : List T) (q q' : Reader T (List A × B)) → ((ts : List T) → q' ts ≡ plain (q ts)) → goes x r q' ≡ plain (goes x r q)
  plain_goes (inl a) r q q' h = plain_after (q r) (q' r) (λ x s. ok (a ∷ x.0, x.1) s) (λ x s. ok (a ∷ x.0, x.1) s) (h r) (λ x s. refl)
  plain_goes (inr b) r q q' h = refl

  plain_turns : {A B : Type 0} (p p' : Reader T (A ⊎ B)) → Plains p p' → (k : ℕ) (ts : List T) → turns p' k ts ≡ plain (turns p k ts)
  plain_turns p p' h zero ts = refl
  plain_turns p p' h (suc k) ts = plain_after (p ts) (p' ts) (λ x r. goes x r (turns p k)) (λ x r. goes x r (turns p' k)) (h.plains ts) (λ x r. plain_goes x r (turns p k) (turns p' k) (plain_turns p p' h k))

  pub plain_loop : {A B : Type 0} {p p' : Reader T (A ⊎ B)} → Plains p p' → Plains (loop p) (loop p')
  plain_loop {A} {B} {p} {p'} h = record { plains = λ ts. plain_turns p p' h (suc (length ts)) ts }

  pub plain_upto : {A B : Type 0} {test : T → Bool} {p p' : Reader T A} {q q' : Reader T B} → Plains p p' → Plains q q' → Plains (upto test p q) (upto test p' q')
  plain_upto h k = plain_loop (plain_pick (plain_made inl h) (plain_made inr k))

  pub plain_many : {A : Type 0} {test : T → Bool} {p p' : Reader T A} → Plains p p' → Plains (many test p) (many test p')
  plain_many {A} h = plain_made (λ (x : List A × Unit {0}). x.0) (plain_upto h (plain_nothing (tt {0})))

  pub plain_parted : {A : Type 0} (test : T → Bool) {m m' : Reader T (Unit {0})} {p p' : Reader T A} → Plains m m' → Plains p p' → Plains (parted test m p) (parted test m' p')
  plain_parted test hm hp = plain_made list_of (plain_both hp (plain_many (plain_behind hm hp)))

  pub plain_tailed : {A B : Type 0} (test dots : T → Bool) {m m' : Reader T (Unit {0})} {d d' : Reader T B} {p p' : Reader T A} → Plains m m' → Plains p p' → Plains d d' → Plains (tailed test dots m p d) (tailed test dots m' p' d')
  plain_tailed test dots hm hp hd = plain_loop (plain_pick (plain_behind hm (plain_pick (plain_made dots_end hd) (plain_made inl hp))) (plain_nothing (inr None)))

  pub plain_followed : {A : Type 0} (test : T → Bool) {p p' : Reader T A} → Plains p p' → Plains (followed test p) (followed test p')
  plain_followed test h = plain_chain h (λ a. plain_pick (plain_nothing a) (plain_failing bad))

  plain_refused : {C : Type 0} (w : Why) (r : List T) (q : Out T C) → refused bad r (plain q) ≡ plain (refused w r q)
  plain_refused w r (ok c s) = refl
  plain_refused w r (fail v s) = refl

  plain_settled : {A C : Type 0} (o o' : Out T A) (x x' q q' : Out T C) → o' ≡ plain o → x' ≡ plain x → q' ≡ plain q → settled o' x' q' ≡ plain (settled o x q)
  plain_settled (ok a r) o' x x' q q' ho hx hq = rw ho hx
  plain_settled (fail w r) o' x x' q q' ho hx hq = rw (ho, hq) (plain_refused w r q)

  pub plain_decide : {A B C : Type 0} (f : A × B → C) {p p' : Reader T A} {k k' : Reader T B} {q q' : Reader T C} → Plains p p' → Plains k k' → Plains q q' → Plains (decide f p k q) (decide f p' k' q')
  plain_decide f {p} {p'} {k} {k'} {q} {q'} hp hk hq = record { plains = λ ts. plain_settled (p ts) (p' ts) (made f (both p k) ts) (made f (both p' k') ts) (q ts) (q' ts) (hp.plains ts) ((plain_made f (plain_both hp hk)).plains ts) (hq.plains ts) }

  -- ---- what follows from it

  flat_plain : {A : Type 0} (o : Out T A) → Flat (plain o)
  flat_plain (ok a r) = tt
  flat_plain (fail w r) = tt

  pub flat_of : {A : Type 0} {p q : Reader T A} → Plains p q → (ts : List T) → Flat (q ts)
  flat_of {A} {p} {q} h ts = subst (λ (o : Out T A). Flat o) (sym (h.plains ts)) (flat_plain (p ts))

  ok_of : {A : Type 0} (a : A) (r : List T) (o : Out T A) → ok a r ≡ plain o → o ≡ ok a r
  ok_of a r (ok b s) e = sym e
  ok_of a r (fail w s) e = absurd cc

  -- what the plain one reads the other one reads
  pub read_so : {A : Type 0} {p q : Reader T A} → Plains p q → (ts r : List T) (a : A) → q ts ≡ ok a r → p ts ≡ ok a r
  read_so {A} {p} {q} h ts r a e = ok_of a r (p ts) (sym e ∙ h.plains ts)
