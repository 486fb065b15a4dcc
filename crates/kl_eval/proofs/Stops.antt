-- Stops by drivers.
use Rattle.std.proofs.Common.{IsSome, slice_get, sym, ◌∙◌, ap, subst, arith}
use Rattle.std.proofs.lemmas.Option.{slice_get_within}
use Rattle.kl_outcome.specs.Outcome.{Name}
use Rattle.kl_ask.specs.Driver.{State, KeepsState, Cause}
use Rattle.kl_ask.specs.World.{World, Moved}
use Rattle.kl_ask.specs.declared.DriverError.{DriverError}
use Rattle.kl_ask.specs.declared.DriverError.TheVariants as error
use Rattle.kl_ask.proofs.Worlds.{there, source_stays}
use Rattle.kl_eval.specs.World.{StoppedBy}

-- the cause of a later step is one of both
pub cause_then : (e : DriverError) (a b c : State) → KeepsState a b → Cause e b c → Cause e a c
cause_then error.Failed a b c k h = omega (arith, k.faults, h)
cause_then (error.Changed d) a b c k h = (λ told. h.0 (subst (λ q. IsSome q.stored) (sym k.kind) told), omega (arith, k.drifts, h.1))
cause_then error.NoMemory a b c k h = tt
cause_then (error.BadSource p) a b c k h = absurd h
cause_then (error.TooLong m) a b c k h = absurd h
cause_then (error.TooDeep p) a b c k h = absurd h

pub stopped_then : (l : Name) (e : DriverError) (a b c : World) → Moved a b → StoppedBy l e b c → StoppedBy l e a c
stopped_then l e a b c m h =
    let w = there a.drivers h.place (omega (arith, slice_get_within b.drivers h.place h.before h.was, m.drivers.size)) in
    let q = m.drivers.each h.place w.0 h.before w.1 h.was in
    record {
      number = h.number;
      listed = h.listed;
      at = ap (λ ss. slice_get ss h.number) (sym m.sources) ∙ h.at;
      named = h.named;
      before = w.0;
      then = h.then;
      place = h.place;
      held = h.held;
      was = w.1;
      is = h.is;
      cause = cause_then e w.0 h.before h.then q.keeps h.cause;
      drifted = λ d is s has. h.drifted d is s (source_stays a b m h.number ∙ has);
      want = h.want;
    }
