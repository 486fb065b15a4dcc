-- Bytes that a sink took in several calls.
use Rattle.std.proofs.Common.{◌≡◌, ℕ, ◌-◌, ◌≤◌, List, [], ◌++◌, length, take, drop, Option, Some, None, Result, Ok, Err, OnOk, refl, sym, ◌∙◌, ap, append_assoc, arith}
use Rattle.std.proofs.lemmas.Grind.{common_steps}
use Rattle.std.specs.Io.KnownBytes.{append_known}
use Rattle.kl_outside.specs.Sinks.{CountsWant, SinkState, HasCause, TookPart, WritesWhole}
use Rattle.kl_outside.specs.declared.stop.Stop.{Stop}
use Rattle.kl_outside.specs.declared.stop.Stop.TheVariants as stop
use Rattle.kl_outside.specs.Files.{CountsFailed}
use Rattle.kl_outside.proofs.FileLemmas.{counts_on}

pub append_known-append : (known : Option (List ℕ)) (xs ys : List ℕ) → append_known (append_known known xs) ys ≡ append_known known (xs ++ ys)
append_known-append None xs ys = refl
append_known-append (Some bytes) xs ys = ap Some (append_assoc bytes xs ys)

pub append_known-nil : (known : Option (List ℕ)) → append_known known [] ≡ known
append_known-nil None = refl
append_known-nil (Some xs) = grind (arith, common_steps)

abbrev pub well : {T : Type 0} → T → Result T Stop
well value = Ok value

abbrev pub refused : (T : Type 0) → Stop → Result T Stop
refused T stop = Err stop

-- A sink that took nothing took a part of whatever bytes.
pub took_none : (bytes : List ℕ) (old new : SinkState) → new.taken ≡ old.taken → TookPart bytes old new
took_none bytes old new same = record { done = []; rest = bytes; all = refl; took = same ∙ sym (append_known-nil old.taken) }

-- All is a part.
pub took_all : (bytes : List ℕ) (old new : SinkState) → new.taken ≡ append_known old.taken bytes → TookPart bytes old new
took_all bytes old new took = record { done = bytes; rest = []; all = grind (arith, common_steps); took = took }

-- A part of the first bytes is a part of all.
pub took_front : (first rest : List ℕ) (old new : SinkState) → TookPart first old new → TookPart (first ++ rest) old new
took_front first rest old new part = record {
  done = part.done;
  rest = part.rest ++ rest;
  all = ap (λ bytes. bytes ++ rest) part.all ∙ append_assoc part.done part.rest rest;
  took = part.took;
}

-- The first bytes, and then a part of the rest, are a part of all.
pub took_then_part : (first rest : List ℕ) (old mid new : SinkState) → mid.taken ≡ append_known old.taken first → TookPart rest mid new → TookPart (first ++ rest) old new
took_then_part first rest old mid new took part = record {
  done = first ++ part.done;
  rest = part.rest;
  all = ap (λ bytes. first ++ bytes) part.all ∙ sym (append_assoc first part.done part.rest);
  took = part.took ∙ ap (λ known. append_known known part.done) took ∙ append_known-append old.taken first part.done;
}

-- The first bytes, and then the rest, are all.
pub took_then_took : (first rest : List ℕ) (old mid new : SinkState) → mid.taken ≡ append_known old.taken first → new.taken ≡ append_known mid.taken rest → new.taken ≡ append_known old.taken (first ++ rest)
took_then_took first rest old mid new took more = more ∙ ap (λ known. append_known known rest) took ∙ append_known-append old.taken first rest

pub wants_on : {T : Type 0} (result : Result T Stop) (a b c : ℕ) → b ≡ a → CountsWant result b c → CountsWant result a c
wants_on (Ok value) a b c same counts = counts ∙ same
wants_on (Err stop.Failed) a b c same counts = counts ∙ same
wants_on (Err stop.NoMemory) a b c same counts = omega (arith, same, counts)

-- A cause in a later call is a cause over all calls, where those before raised no count.
pub cause_after : {T : Type 0} (result : Result T Stop) (old mid new : SinkState) → mid.faults ≡ old.faults → mid.wants ≡ old.wants → HasCause result mid new → HasCause result old new
cause_after result old mid new faults wants cause = record {
  later = omega (arith, faults, cause.later);
  counts = counts_on result old.faults mid.faults new.faults faults cause.counts;
  failed = λ is. omega (arith, faults, cause.failed is);
  wants_later = omega (arith, wants, cause.wants_later);
  counts_want = wants_on result old.wants mid.wants new.wants wants cause.counts_want;
  wanted = λ is. omega (arith, wants, cause.wanted is);
}

-- A refusal has the same cause whatever would have been answered.
pub cause_as : {T U : Type 0} (why : Stop) (old new : SinkState) → HasCause (refused T why) old new → HasCause (refused U why) old new
cause_as {T} {U} why old new cause = record {
  later = cause.later;
  counts = faults why cause.counts;
  failed = λ is. cause.failed (same is);
  wants_later = cause.wants_later;
  counts_want = wants why cause.counts_want;
  wanted = λ is. cause.wanted (same is);
}
  where
    same : {e : Stop} → refused U why ≡ Err e → refused T why ≡ Err e
    same is = grind arith

    faults : (e : Stop) → CountsFailed (refused T e) old.faults new.faults → CountsFailed (refused U e) old.faults new.faults
    faults stop.Failed is = is
    faults stop.NoMemory is = is

    wants : (e : Stop) → CountsWant (refused T e) old.wants new.wants → CountsWant (refused U e) old.wants new.wants
    wants stop.Failed is = is
    wants stop.NoMemory is = is

-- Nothing is written by no call.
pub writes_nothing : {T : Type 0} (value : T) (old : SinkState) → WritesWhole [] (well value) old old
writes_nothing value old = record {
  took = sym (append_known-nil old.taken);
  part = took_none [] old old refl;
  cause = record { later = omega arith; counts = refl; failed = λ is. absurd cc; wants_later = omega arith; counts_want = refl; wanted = λ is. absurd cc };
}

-- The first bytes are written, and then the rest, or a part of it.
pub writes_then : {T U : Type 0} (first rest : List ℕ) (value : T) (result : Result U Stop) (old mid new : SinkState) → WritesWhole first (well value) old mid → WritesWhole rest result mid new → WritesWhole (first ++ rest) result old new
writes_then {T} {U} first rest value result old mid new before after = record {
  took = whole result after.took;
  part = took_then_part first rest old mid new before.took after.part;
  cause = cause_after result old mid new before.cause.counts before.cause.counts_want after.cause;
}
  where
    whole : (r : Result U Stop) → OnOk r (new.taken ≡ append_known mid.taken rest) → OnOk r (new.taken ≡ append_known old.taken (first ++ rest))
    whole (Ok u) more = took_then_took first rest old mid new before.took more
    whole (Err e) more = tt

-- A refusal among the first bytes ends the writing of all.
pub writes_stopped : {T U : Type 0} (first rest : List ℕ) (why : Stop) (old new : SinkState) → WritesWhole first (refused T why) old new → WritesWhole (first ++ rest) (refused U why) old new
writes_stopped {T} {U} first rest why old new before = record {
  took = tt;
  part = took_front first rest old new before.part;
  cause = cause_as {T = T} {U = U} why old new before.cause;
}

rest_from : (rest : List ℕ) (count : ℕ) → count ≤ length rest → rest ≡ take count rest ++ take (length rest - count) (drop count rest)
rest_from rest count le = grind (arith, common_steps)

-- the sink took some bytes of what is left to write
pub takes_more : (all done rest : List ℕ) (count : ℕ) (start before after : Option (List ℕ)) → count ≤ length rest → all ≡ done ++ rest → before ≡ append_known start done → after ≡ append_known before (take count rest) → (more : List ℕ) × (all ≡ more ++ take (length rest - count) (drop count rest)) × (after ≡ append_known start more)
takes_more all done rest count start before after le split had took = (
  done ++ take count rest,
  split ∙ ap (λ r. done ++ r) (rest_from rest count le) ∙ sym (append_assoc done (take count rest) (take (length rest - count) (drop count rest))),
  took ∙ ap (λ b. append_known b (take count rest)) had ∙ append_known-append start done (take count rest),
)
