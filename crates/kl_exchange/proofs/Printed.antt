-- Bytes printed one after the other.
use Rattle.std.proofs.Common.{◌≡◌, ℕ, ◌+◌, ◌<◌, List, [], ◌++◌, length, take, map, get_or, refl, sym, ap, subst, ◌∙◌, arith, Option, Some, None, Result, Ok, Err, append_assoc, append-nil, Bool, false, true≢false, is_ok}
use Rattle.std.specs.Prelude.{OnOk, OnErr}
use Rattle.std.specs.Io.KnownBytes.{append_known}
use Rattle.kl_outside.specs.Sinks.{SinkState, HasCause, WritesWhole}
use Rattle.kl_outside.specs.declared.Stop.{Stop}
use Rattle.kl_value.specs.Written.{with_commas, separator}
use Rattle.kl_exchange.specs.Printing.{Puts, Prints, AddsBytes, as_stop, error_of, outcome}
use Rattle.kl_outside.specs.declared.Stop.TheVariants as stop
use Rattle.kl_exchange.proofs.TextLemmas.{commas_more}
use Rattle.kl_outside.proofs.FileLemmas.{counts_on}
use Rattle.kl_outside.proofs.SinkLemmas.{append_known-append, wants_on}

module _ {T U : Type 0} where
  -- a cause behind a call that was not refused
  cause_then : (u : T) (r : Result U Stop) (s t v : SinkState) → HasCause {T = T} (Ok u) s t → HasCause r t v → HasCause r s v
  cause_then u r s t v c d = record {
    later = (let a = c.later in let b = d.later in omega arith);
    counts = counts_on r s.faults t.faults v.faults c.counts d.counts;
    failed = λ e. (let a = c.counts in let b = d.failed e in omega arith);
    wants_later = (let a = c.wants_later in let b = d.wants_later in omega arith);
    counts_want = wants_on r s.wants t.wants v.wants c.counts_want d.counts_want;
    wanted = λ e. (let a = c.counts_want in let b = d.wanted e in omega arith);
  }

  puts_then : (us bs : List ℕ) (u : T) (r : Result U Stop) (s t v : SinkState) (h k m : List ℕ)
      → Puts {T = T} us (Ok u) s h t k → Puts bs r t k v m → Puts (us ++ bs) r s h v m
  puts_then us bs u r s t v h k m p q = record {
    done = p.done ++ q.done;
    rest = q.rest;
    all = sym (append_assoc h us bs) ∙ (ap (λ xs. xs ++ bs) p.all ∙ (append_assoc p.done p.rest bs ∙ (ap (λ xs. p.done ++ (xs ++ bs)) p.holds ∙ (ap (λ xs. p.done ++ xs) q.all ∙ sym (append_assoc p.done q.done q.rest)))));
    took = q.took ∙ (ap (λ known. append_known known q.done) p.took ∙ append_known-append s.taken p.done q.done);
    holds = q.holds;
    cause = cause_then u r s t v p.cause q.cause;
  }

module _ {T : Type 0} where
  puts_stopped : (us bs : List ℕ) (e : Stop) (s t : SinkState) (h k m : List ℕ) → Puts {T = T} us (Err e) s h t k → Puts {T = T} (us ++ bs) (Err e) s h t m
  puts_stopped us bs e s t h k m p = record {
    done = p.done;
    rest = p.rest ++ bs;
    all = sym (append_assoc h us bs) ∙ (ap (λ xs. xs ++ bs) p.all ∙ append_assoc p.done p.rest bs);
    took = p.took;
    holds = tt;
    cause = p.cause;
  }

pub prints_none : (s : SinkState) (h : List ℕ) (w : Option Stop) → Prints [] s h w s h w
prints_none s h (Some e) = record { adds = (refl, refl) }
prints_none s h None = record {
  adds = record {
    done = [];
    rest = h;
    all = append-nil h;
    took = nothing s.taken;
    holds = refl;
    cause = record { later = omega arith; counts = refl; failed = λ e. cc; wants_later = omega arith; counts_want = refl; wanted = λ e. cc };
  };
}
  where
    nothing : (known : Option (List ℕ)) → known ≡ append_known known []
    nothing None = refl
    nothing (Some ks) = ap Some (sym (append-nil ks))

adds_then : (us bs : List ℕ) (s t v : SinkState) (h k m : List ℕ) (w x y : Option Stop) → AddsBytes w us s h t k x → AddsBytes x bs t k v m y → AddsBytes w (us ++ bs) s h v m y
adds_then us bs s t v h k m (Some e) x y p q =
    let r = subst (λ z. AddsBytes z bs t k v m y) p.0 q in
    (r.0, r.1 ∙ p.1)
adds_then us bs s t v h k m None None y p q = puts_then us bs tt (outcome y) s t v h k m p q
adds_then us bs s t v h k m None (Some e) y p q =
    subst (λ z. AddsBytes None (us ++ bs) s h v m z) (sym q.0)
    (subst (λ z. AddsBytes None (us ++ bs) s h z m (Some e)) (sym q.1) (puts_stopped us bs e s t h k m p))

pub then : {us bs : List ℕ} {s t v : SinkState} {h k m : List ℕ} {w x y : Option Stop} → Prints us s h w t k x → Prints bs t k x v m y → Prints (us ++ bs) s h w v m y
then p q = record { adds = adds_then _ _ _ _ _ _ _ _ _ _ _ p.adds q.adds }

-- what was held is written, and then a piece
pub wrote_both : (held piece : List ℕ) (u : Unit {0}) (r : Result (Unit {0}) Stop) (s t v : SinkState) → WritesWhole held (Ok u) s t → WritesWhole piece r t v → Puts piece r s held v []
wrote_both held piece u (Ok w) s t v p q = record {
  done = held ++ piece;
  rest = [];
  all = sym (append-nil (held ++ piece));
  took = q.took ∙ (ap (λ known. append_known known piece) p.took ∙ append_known-append s.taken held piece);
  holds = refl;
  cause = cause_then u (Ok w) s t v p.cause q.cause;
}
wrote_both held piece u (Err e) s t v p q = record {
  done = held ++ q.part.done;
  rest = q.part.rest;
  all = ap (λ xs. held ++ xs) q.part.all ∙ sym (append_assoc held q.part.done q.part.rest);
  took = q.part.took ∙ (ap (λ known. append_known known q.part.done) p.took ∙ append_known-append s.taken held q.part.done);
  holds = tt;
  cause = cause_then u (Err e) s t v p.cause q.cause;
}

pub on_err : {T E P : Type 0} (r : Result T E) (b : Bool) → b ≡ is_ok r → b ≡ false → OnErr r P → P
on_err (Ok x) b e f h = absurd (true≢false (sym e ∙ f))
on_err (Err x) b e f h = h

pub wrote_page : (held slice kept piece after : List ℕ) (u : Unit {0}) (r : Result (Unit {0}) Stop) (s t v : SinkState) → slice ≡ kept → kept ≡ held → after ≡ []
    → WritesWhole slice (Ok u) s t → WritesWhole piece r t v → Puts piece r s held v after
wrote_page held slice kept piece after u r s t v e f g p q =
    subst (λ k. Puts piece r s k v after) f
    (subst (λ m. Puts piece r s kept v m) (sym g) (wrote_both kept piece u r s t v (subst (λ k. WritesWhole k (Ok u) s t) e p) q))

-- the same bytes under another name
pub shown : {s t : SinkState} {h k : List ℕ} {w x : Option Stop} {bs : List ℕ} (text : List ℕ) → text ≡ bs → Prints bs s h w t k x → Prints text s h w t k x
shown {s} {t} {h} {k} {w} {x} text is p = subst (λ cs. Prints cs s h w t k x) (sym is) p

-- one item more
pub item_more : {A : Type 0} {s t u v : SinkState} {h k l m : List ℕ} {w x y z : Option Stop} {sep bytes : List ℕ} (f : A → List ℕ) (xs : List A) (i : ℕ) (a : A)
    → i < length xs → a ≡ get_or xs i a → sep ≡ separator i → bytes ≡ f a
    → Prints (with_commas (map f (take i xs))) s h w t k x → Prints sep t k x u l y → Prints bytes u l y v m z → Prints (with_commas (map f (take (i + 1) xs))) s h w v m z
item_more f xs i a within is same bytes p q r =
    shown (with_commas (map f (take (i + 1) xs))) (commas_more f xs i a within is) (then (then p (shown (separator i) (sym same) q)) (shown (f a) (sym bytes) r))

-- the stop of an error that hands it on
pub same : (e : Stop) → as_stop {T = Unit {0}} (Err (error_of e)) ≡ Err e
same stop.Failed = refl
same stop.NoMemory = refl

-- what is held in the end is written
pub last_write : (bytes held after slice : List ℕ) (stopped : Option Stop) (r : Result (Unit {0}) Stop) (s t v : SinkState) → held ≡ [] → stopped ≡ None → slice ≡ after
    → Puts bytes (outcome stopped) s held t after → WritesWhole slice r t v → WritesWhole bytes r s v
last_write bytes held after slice stopped r s t v none fine same p q =
    let puts : Puts bytes (Ok tt) s [] t after = subst (λ h. Puts bytes (Ok tt) s h t after) none (subst (λ o. Puts bytes (outcome o) s held t after) fine p) in
    let all : bytes ≡ puts.done ++ slice = puts.all ∙ ap (λ xs. puts.done ++ xs) (puts.holds ∙ sym same) in
    record {
      took = took puts.done all puts.took r q.took;
      part = record {
        done = puts.done ++ q.part.done;
        rest = q.part.rest;
        all = all ∙ (ap (λ xs. puts.done ++ xs) q.part.all ∙ sym (append_assoc puts.done q.part.done q.part.rest));
        took = q.part.took ∙ (ap (λ known. append_known known q.part.done) puts.took ∙ append_known-append s.taken puts.done q.part.done);
      };
      cause = cause_then tt r s t v puts.cause q.cause;
    }
  where
    took : (front : List ℕ) → bytes ≡ front ++ slice → t.taken ≡ append_known s.taken front → (o : Result (Unit {0}) Stop) → OnOk o (v.taken ≡ append_known t.taken slice)
        → OnOk o (v.taken ≡ append_known s.taken bytes)
    took front all before (Ok x) e =
        e ∙ (ap (λ known. append_known known slice) before ∙ (append_known-append s.taken front slice ∙ ap (append_known s.taken) (sym all)))
    took front all before (Err x) e = tt

-- Nothing is held at first, and in the end all that is held is written.
pub whole : (bytes : List ℕ) (t : Unit {0}) (r : Result (Unit {0}) Stop) (k : List ℕ) (s u v : SinkState) → Puts bytes (Ok t) s [] u k → WritesWhole k r u v → WritesWhole bytes r s v
whole bytes t r k s u v p q = last_write bytes [] k k None r s u v refl refl refl p q
