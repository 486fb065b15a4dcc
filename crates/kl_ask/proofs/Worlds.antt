-- What stays of a session.
use Rattle.std.proofs.Common.{◌≡◌, ⊎_elim, ◌<◌, ℕ, List, length, Option, Some, None, IsSome, slice_get, refl, sym, ◌∙◌, ap, subst, arith, Err, IsErrOf}
use Rattle.std.proofs.Math.Path.{fun_ext}
use Rattle.std.proofs.lemmas.Bool.{cases_eq}
use Rattle.std.proofs.lemmas.Grind.{common_steps}
use Rattle.std.proofs.lemmas.Option.{gets, same_Some, slice_get_within}
use Rattle.kl_ask.specs.Driver.{State, KeepsState}
use Rattle.kl_ask.specs.Lists.{StepsAt, EachSteps}
use Rattle.kl_ask.specs.World.{World, IsReady, Moved, Quiet, at_driver, at_place, at_source, source_at, type_in, value_in, types_of, values_of}
use Rattle.kl_ask.specs.declared.session.Attached.{Attached}
use Rattle.kl_ask.specs.declared.ask.DriverError.{DriverError}

pub error_is : {x y : DriverError} → IsErrOf {T = ℕ} {E = DriverError} (Err x) y → x ≡ y
error_is h = cc

pub keeps_none : (s : State) → KeepsState s s
keeps_none s = record { kind = refl; handed = omega arith; faults = omega arith; drifts = omega arith; no_drift = λ told. refl; unread = omega arith }

pub keeps_then : (a b c : State) → KeepsState a b → KeepsState b c → KeepsState a c
keeps_then a b c m n = record {
  kind = n.kind ∙ m.kind;
  handed = omega (arith, m.handed, n.handed);
  faults = omega (arith, m.faults, n.faults);
  drifts = omega (arith, m.drifts, n.drifts);
  no_drift = λ told. n.no_drift (subst (λ k. IsSome k.stored) (sym m.kind) told) ∙ m.no_drift told;
  unread = omega (arith, m.unread, n.unread);
}

pub quiet_none : (s : State) → Quiet s s
quiet_none s = record { keeps = keeps_none s; attached = refl; cursors = refl }

pub quiet_then : (a b c : State) → Quiet a b → Quiet b c → Quiet a c
quiet_then a b c m n = record { keeps = keeps_then a b c m.keeps n.keeps; attached = n.attached ∙ m.attached; cursors = n.cursors ∙ m.cursors }

pub there : (xs : List State) (i : ℕ) → i < length xs → (s : State) × (slice_get xs i ≡ Some s)
there xs i lt = by_case (slice_get xs i) refl
  where
    by_case : (o : Option State) → slice_get xs i ≡ o → (s : State) × (slice_get xs i ≡ Some s)
    by_case (Some s) is = (s, is)
    by_case None is = absurd (grind (arith, gets, common_steps))

pub moved_none : (a : World) → Moved a a
moved_none a = record {
  sources = refl;
  settings = refl;
  trace = refl;
  drivers = record { size = refl; each = λ i x y hx hy. subst (λ s. Quiet x s) (same_Some _ _ (sym hx ∙ hy)) (quiet_none x) };
}

pub moved_then : (a b c : World) → Moved a b → Moved b c → Moved a c
moved_then a b c m n = record {
  sources = n.sources ∙ m.sources;
  settings = n.settings ∙ m.settings;
  trace = n.trace ∙ m.trace;
  drivers = record {
    size = n.drivers.size ∙ m.drivers.size;
    each = λ i x z hx hz.
        let mid = there b.drivers i (omega (arith, slice_get_within a.drivers i x hx, m.drivers.size)) in
        quiet_then x mid.0 z (m.drivers.each i x mid.0 hx mid.1) (n.drivers.each i mid.0 z mid.1 hz);
  };
}

beyond : (xs ys : List State) (i : ℕ) → length ys ≡ length xs → slice_get xs i ≡ None → slice_get ys i ≡ None
beyond xs ys i size is = by_case (slice_get ys i) refl
  where
    by_case : (o : Option State) → slice_get ys i ≡ o → slice_get ys i ≡ None
    by_case None h = h
    by_case (Some y) h = absurd (let lt = slice_get_within ys i y h in let x = there xs i (omega (arith, lt, size)) in cc)

driver_stays : (a b : World) → Moved a b → (s : Attached) (place : ℕ) → at_driver s (slice_get b.drivers place) ≡ at_driver s (slice_get a.drivers place)
driver_stays a b m s place = by_case (slice_get a.drivers place) refl
  where
    by_case : (o : Option State) → slice_get a.drivers place ≡ o → at_driver s (slice_get b.drivers place) ≡ at_driver s (slice_get a.drivers place)
    by_case None is = rw (is, beyond a.drivers b.drivers place m.drivers.size is) refl
    by_case (Some x) is =
        let y = there b.drivers place (omega (arith, slice_get_within a.drivers place x is, m.drivers.size)) in
        let q = m.drivers.each place x y.0 is y.1 in
        rw (is, y.1) (ap (λ f. f s.source) q.attached)

place_stays : (a b : World) → Moved a b → (s : Attached) (o : Option ℕ) → at_place s o b.drivers ≡ at_place s o a.drivers
place_stays a b m s (Some place) = driver_stays a b m s place
place_stays a b m s None = refl

listed_stays : (a b : World) → Moved a b → (o : Option Attached) → at_source o b.drivers ≡ at_source o a.drivers
listed_stays a b m None = refl
listed_stays a b m (Some s) = place_stays a b m s s.driver

pub source_stays : (a b : World) → Moved a b → (i : ℕ) → source_at b i ≡ source_at a i
source_stays a b m i = ap (λ ss. at_source (slice_get ss i) b.drivers) m.sources ∙ listed_stays a b m (slice_get a.sources i)

pub types_stay : (a b : World) → Moved a b → types_of b ≡ types_of a
unfolding types_of
types_stay a b m = fun_ext (λ i. ap type_in (source_stays a b m i))

pub values_stay : (a b : World) → Moved a b → values_of b ≡ values_of a
unfolding values_of
values_stay a b m = fun_ext (λ i. ap value_in (source_stays a b m i))

pub ready_on : (a b : World) → Moved a b → IsReady a → IsReady b
ready_on a b m r = record {
  fetch = subst (λ s. 0 < s.fetch) (sym m.settings) r.fetch;
  listed = λ i q s at is. r.listed i q s (ap (λ ss. slice_get ss i) (sym m.sources) ∙ at) (sym (source_stays a b m i) ∙ is);
}

-- one driver of the list was quiet
pub quiet_steps : (i : ℕ) (ds es : List State) (P : State → State → Type 0) → ((x y : State) → P x y → Quiet x y) → StepsAt i P ds es → EachSteps Quiet ds es
quiet_steps i ds es P calm s = record {
  size = s.size;
  each = λ j x y hx hy. ⊎_elim
      (λ is. calm x y (s.here x y (ap (slice_get ds) (sym is) ∙ hx) (ap (slice_get es) (sym is) ∙ hy)))
      (λ ne. subst (λ q. Quiet x q) (same_Some _ _ (sym hx ∙ sym (s.others j ne) ∙ hy)) (quiet_none x))
      (cases_eq j i);
}
