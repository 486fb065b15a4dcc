-- What stays of a session while scans move in it, and how moves follow one another.
use Rattle.std.proofs.Common.{◌≡◌, ℕ, ◌+◌, ◌<◌, ◌≤◌, List, [], ◌∷◌, ◌++◌, length, map, max, Option, Some, None, cond, nat_eq, slice_get, refl, sym, ap, ◌∙◌, subst, arith}
use mathlib.Core.Path.{ap₂}
use Rattle.std.proofs.Math.Path.{fun_ext}
use Rattle.std.proofs.lemmas.Option.{same_Some, slice_get_within}
use Rattle.std.specs.List.{AllByRecursion, Contains, IsDistinct}
use Rattle.std.specs.Option.{option_map}
use Rattle.kl_base.proofs.Each.{all_append}
use Rattle.kl_value.specs.declared.Value.{Value}
use Rattle.kl_outcome.specs.Outcome.{Name}
use Rattle.kl_ask.specs.Asked.{with_ask, raised_by}
use Rattle.kl_ask.specs.Driver.{State, Cursor, KeepsState, Cause}
use Rattle.kl_ask.specs.Lists.{EachSteps}
use Rattle.kl_ask.specs.World.{at_driver, at_place, at_source, source_at}
use Rattle.kl_ask.specs.declared.ask.Ask.{Ask}
use Rattle.kl_ask.specs.declared.ask.Ask.TheVariants as asks
use Rattle.kl_ask.specs.declared.session.Attached.{Attached}
use Rattle.kl_ask.specs.declared.DriverError.{DriverError}
use Rattle.kl_ask.specs.declared.DriverError.TheVariants as error
use Rattle.kl_ask.specs.declared.settings.JoinRun.{JoinRun}
use Rattle.kl_ask.proofs.Worlds.{keeps_none, keeps_then, there}
use Rattle.kl_lookups.specs.Lookups.{kept_with, moved_up}
use Rattle.kl_plan.specs.declared.plan.Scan.{Scan}
use Rattle.kl_plan.specs.Prices.{Prices}
use Rattle.kl_plan.specs.Subqueries.{Memo, Subquery, values_at}
use Rattle.kl_eval.specs.World.{Drifted}
use Rattle.kl_eval.proofs.Stops.{cause_then}
use Rattle.kl_scans.specs.Held.{Held, held_in, held_at, cursor_at, count_open, open_at, Uses, beside, Owned}
use Rattle.kl_scans.specs.Log.{Event, started, handed, joined, missed, hit, paid, times_after, asked_after, handed_after, counted, fullest}
use Rattle.kl_scans.specs.Log.{entries_after, peak_after, hits_after, misses_after, Leaves, StartsFit, Logged}
use Rattle.kl_scans.specs.Moves.{Stays, Moves}
use Rattle.kl_scans.specs.Right.{IsReadyRun}
use Rattle.kl_scans.specs.Running.{Running, session}
use Rattle.kl_scans.specs.Same.{same_subquery}
use Rattle.kl_scans.specs.Scans.{DriftedIn, StoppedBy}
use Rattle.kl_scans.specs.Stage.{Stage, stage}

pub open_most : (w : Running) (d k : ℕ) → open_at w d k ≤ 1
open_most w d k = at_most (cursor_at w d k)
  where
    at_most : (o : Option Cursor) → count_open o ≤ 1
    at_most None = omega arith
    at_most (Some x) = omega arith

-- ---- drivers that stay

beyond : (xs ys : List State) (i : ℕ) → length ys ≡ length xs → slice_get xs i ≡ None → slice_get ys i ≡ None
beyond xs ys i size is = by_case (slice_get ys i) refl
  where
    by_case : (o : Option State) → slice_get ys i ≡ o → slice_get ys i ≡ None
    by_case None h = h
    by_case (Some y) h = absurd (let lt = slice_get_within ys i y h in let x = there xs i (omega (arith, lt, size)) in cc)

held_on : (a b : Running) → EachSteps Stays a.drivers b.drivers → (d : ℕ) → held_at b d ≡ held_at a d
unfolding held_at
held_on a b m d = by_case (slice_get a.drivers d) refl
  where
    by_case : (o : Option State) → slice_get a.drivers d ≡ o → held_in (slice_get b.drivers d) ≡ held_in (slice_get a.drivers d)
    by_case None is = rw (is, beyond a.drivers b.drivers d m.size is) refl
    by_case (Some x) is =
        let y = there b.drivers d (omega (arith, slice_get_within a.drivers d x is, m.size)) in
        let s = m.each d x y.0 is y.1 in
        rw (is, y.1, s.keeps.kind, s.attached) refl

driver_stays : (a b : Running) → EachSteps Stays a.drivers b.drivers → (s : Attached) (place : ℕ) → at_driver s (slice_get b.drivers place) ≡ at_driver s (slice_get a.drivers place)
driver_stays a b m s place = by_case (slice_get a.drivers place) refl
  where
    by_case : (o : Option State) → slice_get a.drivers place ≡ o → at_driver s (slice_get b.drivers place) ≡ at_driver s (slice_get a.drivers place)
    by_case None is = rw (is, beyond a.drivers b.drivers place m.size is) refl
    by_case (Some x) is =
        let y = there b.drivers place (omega (arith, slice_get_within a.drivers place x is, m.size)) in
        let q = m.each place x y.0 is y.1 in
        rw (is, y.1) (ap (λ f. f s.source) q.attached)

place_stays : (a b : Running) → EachSteps Stays a.drivers b.drivers → (s : Attached) (o : Option ℕ) → at_place s o b.drivers ≡ at_place s o a.drivers
place_stays a b m s (Some place) = driver_stays a b m s place
place_stays a b m s None = refl

listed_stays : (a b : Running) → EachSteps Stays a.drivers b.drivers → (o : Option Attached) → at_source o b.drivers ≡ at_source o a.drivers
listed_stays a b m None = refl
listed_stays a b m (Some s) = place_stays a b m s s.driver

source_stays : (u v : Uses) (a b : Running) → Moves u v a b → (i : ℕ) → source_at (session b) i ≡ source_at (session a) i
source_stays u v a b m i = ap (λ ss. at_source (slice_get ss i) b.drivers) m.sources ∙ listed_stays a b m.drivers (slice_get a.sources i)

same_stage : (h k : ℕ → Option Held) (xs ys : List Attached) (m n p q : ℕ) (ms ns : List Memo) → h ≡ k → xs ≡ ys → m ≡ n → p ≡ q → ms ≡ ns
    → ◌≡◌ {A = Stage} (record { held = h; sources = xs; fetch = m; block = p; memos = ms }) (record { held = k; sources = ys; fetch = n; block = q; memos = ns })
same_stage h k xs ys m n p q ms ns e f g i j = rw (e, f, g, i, j) refl

-- what stays where the drivers do
pub stage_on : (a b : Running) → EachSteps Stays a.drivers b.drivers → b.sources ≡ a.sources → b.settings ≡ a.settings → b.memos ≡ a.memos → stage b ≡ stage a
unfolding stage
stage_on a b drivers sources settings memos =
    same_stage _ _ _ _ _ _ _ _ _ _ (fun_ext (λ d. held_on a b drivers d)) sources (ap (λ s. s.fetch) settings) (ap (λ s. s.block) settings) memos

pub stage_stays : (u v : Uses) (a b : Running) → Moves u v a b → stage b ≡ stage a
stage_stays u v a b m = stage_on a b m.drivers m.sources m.settings m.memos

pub ready_stays : (u v : Uses) (a b : Running) → Moves u v a b → IsReadyRun a → IsReadyRun b
ready_stays u v a b m r = record {
  session = record {
    fetch = subst (λ s. 0 < s.fetch) (sym m.settings) r.session.fetch;
    listed = λ i q s at is. r.session.listed i q s (ap (λ ss. slice_get ss i) (sym m.sources) ∙ at) (sym (source_stays u v a b m i) ∙ is);
  };
  block = subst (λ s. 0 < s.block) (sym m.settings) r.block;
  numbers = subst (λ ms. IsDistinct nat_eq (map (λ m. m.0) ms)) (sym m.memos) r.numbers;
  room = λ q c. subst (λ n. 0 < n) (sym m.logged.room) (r.room q (subst (λ ms. Contains ms q) m.memos c));
  right = m.right r.right;
}

-- ---- what is counted

pub unmoved : {A : Type 0} (f : A → A) → ((x : A) → f x ≡ x) → (o : Option A) → o ≡ option_map f o
unmoved f same (Some x) = ap Some (sym (same x))
unmoved f same None = refl

fused : {A : Type 0} (f g h : A → A) → ((x : A) → g (f x) ≡ h x) → (o : Option A) → option_map g (option_map f o) ≡ option_map h o
fused f g h same (Some x) = ap Some (same x)
fused f g h same None = refl

module _ (n : ℕ) where
  times_then : (es fs : List Event) (times : ℕ) → times_after n fs (times_after n es times) ≡ times_after n (es ++ fs) times
  times_then [] fs times = refl
  times_then (started c ∷ es) fs times = times_then es fs (cond (nat_eq c.number n) (raised_by 1 times) times)
  times_then (handed c m ∷ es) fs times = times_then es fs times
  times_then (joined m way outer starts ∷ es) fs times = times_then es fs times
  times_then (missed k v ∷ es) fs times = times_then es fs times
  times_then (hit m frees p env ∷ es) fs times = times_then es fs times

module _ (d : ℕ) where
  asked_then : (es fs : List Event) (asked : List (Ask × ℕ)) → asked_after d fs (asked_after d es asked) ≡ asked_after d (es ++ fs) asked
  asked_then [] fs asked = refl
  asked_then (started c ∷ es) fs asked = asked_then es fs (cond (nat_eq c.driver d) (with_ask c.ask asked) asked)
  asked_then (handed c m ∷ es) fs asked = asked_then es fs asked
  asked_then (joined m way outer starts ∷ es) fs asked = asked_then es fs asked
  asked_then (missed k v ∷ es) fs asked = asked_then es fs asked
  asked_then (hit m frees p env ∷ es) fs asked = asked_then es fs asked

  handed_then : (es fs : List Event) (rows : ℕ) → handed_after d fs (handed_after d es rows) ≡ handed_after d (es ++ fs) rows
  handed_then [] fs rows = refl
  handed_then (started c ∷ es) fs rows = handed_then es fs rows
  handed_then (handed c m ∷ es) fs rows = handed_then es fs (cond (nat_eq c.driver d) (raised_by m rows) rows)
  handed_then (joined m way outer starts ∷ es) fs rows = handed_then es fs rows
  handed_then (missed k v ∷ es) fs rows = handed_then es fs rows
  handed_then (hit m frees p env ∷ es) fs rows = handed_then es fs rows

entries_then : (es fs : List Event) (joins : List JoinRun) → entries_after fs (entries_after es joins) ≡ entries_after (es ++ fs) joins
entries_then [] fs joins = refl
entries_then (started c ∷ es) fs joins = entries_then es fs joins
entries_then (handed c m ∷ es) fs joins = entries_then es fs joins
entries_then (joined m way outer starts ∷ es) fs joins =
    entries_then es fs (joins ++ record { join = m; outer = counted outer; starts = counted starts } ∷ [])
entries_then (missed k v ∷ es) fs joins = entries_then es fs joins
entries_then (hit m frees p env ∷ es) fs joins = entries_then es fs joins

peak_then : (block : ℕ) (es fs : List Event) (peak : ℕ) → peak_after block fs (peak_after block es peak) ≡ peak_after block (es ++ fs) peak
peak_then block [] fs peak = refl
peak_then block (started c ∷ es) fs peak = peak_then block es fs peak
peak_then block (handed c m ∷ es) fs peak = peak_then block es fs peak
peak_then block (joined m way outer starts ∷ es) fs peak = peak_then block es fs (max peak (fullest block way outer))
peak_then block (missed k v ∷ es) fs peak = peak_then block es fs peak
peak_then block (hit m frees p env ∷ es) fs peak = peak_then block es fs peak

hits_then : (es fs : List Event) (hits : ℕ) → hits_after fs (hits_after es hits) ≡ hits_after (es ++ fs) hits
hits_then [] fs hits = refl
hits_then (started c ∷ es) fs hits = hits_then es fs hits
hits_then (handed c m ∷ es) fs hits = hits_then es fs hits
hits_then (joined m way outer starts ∷ es) fs hits = hits_then es fs hits
hits_then (missed k v ∷ es) fs hits = hits_then es fs hits
hits_then (hit m frees p env ∷ es) fs hits = hits_then es fs (raised_by 1 hits)

misses_then : (es fs : List Event) (misses : ℕ) → misses_after fs (misses_after es misses) ≡ misses_after (es ++ fs) misses
misses_then [] fs misses = refl
misses_then (started c ∷ es) fs misses = misses_then es fs misses
misses_then (handed c m ∷ es) fs misses = misses_then es fs misses
misses_then (joined m way outer starts ∷ es) fs misses = misses_then es fs misses
misses_then (missed k v ∷ es) fs misses = misses_then es fs (raised_by 1 misses)
misses_then (hit m frees p env ∷ es) fs misses = misses_then es fs misses

pub leaves_then : (room : ℕ) (es fs : List Event) (a b c : List (Subquery × Value)) → Leaves room es a b → Leaves room fs b c → Leaves room (es ++ fs) a c
leaves_then room [] fs a b c m n = subst (λ old. Leaves room fs old c) m n
leaves_then room (started x ∷ es) fs a b c m n = leaves_then room es fs a b c m n
leaves_then room (handed x k ∷ es) fs a b c m n = leaves_then room es fs a b c m n
leaves_then room (joined x way outer starts ∷ es) fs a b c m n = leaves_then room es fs a b c m n
leaves_then room (missed k v ∷ es) fs a b c m n = (m.0, leaves_then room es fs (kept_with same_subquery room k v a) b c m.1 n)
leaves_then room (hit x frees p env ∷ es) fs a b c m n = (m.0, leaves_then room es fs (moved_up same_subquery (x, values_at env frees) a) b c m.1 n)

pub logged_none : (w : Running) → Logged [] w w
logged_none w = record {
  starts = λ n. unmoved (times_after n []) (λ x. refl) _;
  asked = λ d. unmoved (asked_after d []) (λ x. refl) _;
  handed = λ d. unmoved (handed_after d []) (λ x. refl) _;
  numbers = refl;
  steps = refl;
  joins = refl;
  peak = refl;
  hits = refl;
  misses = refl;
  executed = tt;
  room = refl;
  kept = refl;
}

pub logged_then : (es fs : List Event) (a b c : Running) → b.settings ≡ a.settings → Logged es a b → Logged fs b c → Logged (es ++ fs) a c
logged_then es fs a b c same m n = record {
  starts = λ i. n.starts i ∙ ap (option_map (times_after i fs)) (m.starts i) ∙ fused (times_after i es) (times_after i fs) (times_after i (es ++ fs)) (times_then i es fs) _;
  asked = λ d. n.asked d ∙ ap (option_map (asked_after d fs)) (m.asked d) ∙ fused (asked_after d es) (asked_after d fs) (asked_after d (es ++ fs)) (asked_then d es fs) _;
  handed = λ d. n.handed d ∙ ap (option_map (handed_after d fs)) (m.handed d) ∙ fused (handed_after d es) (handed_after d fs) (handed_after d (es ++ fs)) (handed_then d es fs) _;
  numbers = n.numbers ∙ m.numbers;
  steps = n.steps ∙ m.steps;
  joins = n.joins ∙ ap (entries_after fs) m.joins ∙ entries_then es fs a.trace.joins;
  peak = n.peak ∙ ap₂ (λ s peak. peak_after s.block fs peak) same m.peak ∙ peak_then a.settings.block es fs a.trace.peak;
  hits = n.hits ∙ ap (hits_after fs) m.hits ∙ hits_then es fs a.trace.hits;
  misses = n.misses ∙ ap (misses_after fs) m.misses ∙ misses_then es fs a.trace.misses;
  executed = all_append (StartsFit a.settings.block) es fs m.executed (subst (λ s. AllByRecursion (StartsFit s.block) fs) same n.executed);
  room = n.room ∙ m.room;
  kept = leaves_then a.room es fs a.kept b.kept c.kept m.kept (subst (λ room. Leaves room fs b.kept c.kept) m.room n.kept);
}

-- the first list of events and then the second cost what both do
pub paid_then : (t : Stage) (P : Prices) (es fs : List Event) → paid t P (es ++ fs) ≡ paid t P es + paid t P fs
paid_then t P [] fs = omega arith
paid_then t P (started c ∷ es) fs = omega (arith, paid_then t P es fs)
paid_then t P (handed c m ∷ es) fs = paid_then t P es fs
paid_then t P (joined n way outer starts ∷ es) fs = omega (arith, paid_then t P es fs)
paid_then t P (missed k v ∷ es) fs = omega (arith, paid_then t P es fs)
paid_then t P (hit n frees p env ∷ es) fs = omega (arith, paid_then t P es fs)

-- ---- moves

pub stays_none : (s : State) → Stays s s
stays_none s = record { keeps = keeps_none s; attached = refl }

pub stays_then : (a b c : State) → Stays a b → Stays b c → Stays a c
stays_then a b c m n = record { keeps = keeps_then a b c m.keeps n.keeps; attached = n.attached ∙ m.attached }

abbrev pub moves_none : (u : Uses) (w : Running) → Moves u u w w
moves_none u w = record {
  sources = refl;
  settings = refl;
  drivers = record { size = refl; each = λ i x y hx hy. subst (λ s. Stays x s) (same_Some _ _ (sym hx ∙ hy)) (stays_none x) };
  balance = λ d k. refl;
  others = λ d k e f. refl;
  memos = refl;
  right = λ h. h;
  events = [];
  logged = logged_none w;
}

pub owned_after : (u v : Uses) (a b : Running) → Owned u a → Moves u v a b → Owned v b
owned_after u v a b o m = record { each = λ d k. let h : u d k ≤ open_at a d k = o.each d k in let e : open_at b d k + u d k ≡ open_at a d k + v d k = m.balance d k in omega arith }

abbrev pub moves_then : (u v w : Uses) (a b c : Running) → Moves u v a b → Moves v w b c → Moves u w a c
moves_then u v w a b c m n = record {
  sources = n.sources ∙ m.sources;
  settings = n.settings ∙ m.settings;
  drivers = record {
    size = n.drivers.size ∙ m.drivers.size;
    each = λ i x z hx hz.
        let mid = there b.drivers i (omega (arith, slice_get_within a.drivers i x hx, m.drivers.size)) in
        stays_then x mid.0 z (m.drivers.each i x mid.0 hx mid.1) (n.drivers.each i mid.0 z mid.1 hz);
  };
  balance = λ d k. let e : open_at b d k + u d k ≡ open_at a d k + v d k = m.balance d k in let f : open_at c d k + v d k ≡ open_at b d k + w d k = n.balance d k in omega arith;
  others = λ d k e f.
      let same : cursor_at b d k ≡ cursor_at a d k = m.others d k e f in
      let still : open_at b d k ≡ 1 = ap count_open same ∙ f in
      let g : open_at b d k + u d k ≡ open_at a d k + v d k = m.balance d k in
      let free : v d k ≡ 0 = omega arith in
      n.others d k free still ∙ same;
  memos = n.memos ∙ m.memos;
  right = λ h. n.right (m.right h);
  events = m.events ++ n.events;
  logged = logged_then m.events n.events a b c m.settings m.logged n.logged;
}

-- with other cursors beside
abbrev pub moves_beside : (w u v : Uses) (a b : Running) → Moves u v a b → Moves (beside w u) (beside w v) a b
moves_beside w u v a b m = record {
  sources = m.sources;
  settings = m.settings;
  drivers = m.drivers;
  balance = λ d k. let e : open_at b d k + u d k ≡ open_at a d k + v d k = m.balance d k in omega arith;
  others = λ d k e f. m.others d k (let g : w d k + u d k ≡ 0 = e in omega arith) f;
  memos = m.memos;
  right = m.right;
  events = m.events;
  logged = m.logged;
}

abbrev pub moves_same : (u x v y : Uses) (a b : Running) → ((d k : ℕ) → x d k ≡ u d k) → ((d k : ℕ) → y d k ≡ v d k) → Moves u v a b → Moves x y a b
moves_same u x v y a b e f m = record {
  sources = m.sources;
  settings = m.settings;
  drivers = m.drivers;
  balance = λ d k. let g : open_at b d k + u d k ≡ open_at a d k + v d k = m.balance d k in let p : x d k ≡ u d k = e d k in let q : y d k ≡ v d k = f d k in omega arith;
  others = λ d k g h. m.others d k (sym (e d k) ∙ g) h;
  memos = m.memos;
  right = m.right;
  events = m.events;
  logged = m.logged;
}

-- ---- causes

cause_before : (e : DriverError) (a b c : State) → Cause e a b → KeepsState b c → Cause e a c
cause_before error.Failed a b c h k = omega (arith, k.faults, h)
cause_before (error.Changed d) a b c h k = (h.0, omega (arith, k.drifts, h.1))
cause_before error.NoMemory a b c h k = tt
cause_before (error.BadSource p) a b c h k = absurd h
cause_before (error.TooLong m) a b c h k = absurd h
cause_before (error.TooDeep p) a b c h k = absurd h

-- a stop after some moves
drifted_before : (ask : Ask) (e : DriverError) (a b : State) → b.attached ≡ a.attached → DriftedIn b ask e → DriftedIn a ask e
drifted_before (asks.Rows source keep tests) e a b same h = subst (λ f. Drifted e (f source)) same h
drifted_before (asks.Sql text) e a b same h = λ d is q r.
    let t = h d is q r in
    record { name = t.name; source = t.source; named = t.named; is_attached = subst (λ f. f t.name ≡ Some t.source) same t.is_attached; drifted = t.drifted }

pub stopped_then : (c : Scan) (l : Name) (e : DriverError) (u v : Uses) (a b d : Running) → Moves u v a b → StoppedBy c l e b d → StoppedBy c l e a d
stopped_then c l e u v a b d m h =
    let w = there a.drivers h.place (omega (arith, slice_get_within b.drivers h.place h.before h.was, m.drivers.size)) in
    let q = m.drivers.each h.place w.0 h.before w.1 h.was in
    record {
      number = h.number;
      listed = h.listed;
      at = ap (λ ss. slice_get ss h.number) (sym m.sources) ∙ h.at;
      named = h.named;
      before = w.0;
      then = h.then;
      place = h.place;
      held = h.held;
      was = w.1;
      is = h.is;
      cause = cause_then e w.0 h.before h.then q.keeps h.cause;
      drifted = drifted_before c.ask e w.0 h.before q.attached h.drifted;
      want = h.want;
    }

-- a stop before some moves
pub stopped_before : (c : Scan) (l : Name) (e : DriverError) (u v : Uses) (a b d : Running) → StoppedBy c l e a b → Moves u v b d → StoppedBy c l e a d
stopped_before c l e u v a b d h m =
    let w = there d.drivers h.place (omega (arith, slice_get_within b.drivers h.place h.then h.is, m.drivers.size)) in
    let q = m.drivers.each h.place h.then w.0 h.is w.1 in
    record {
      number = h.number;
      listed = h.listed;
      at = h.at;
      named = h.named;
      before = h.before;
      then = w.0;
      place = h.place;
      held = h.held;
      was = h.was;
      is = w.1;
      cause = cause_before e h.before h.then w.0 h.cause q.keeps;
      drifted = h.drifted;
      want = h.want;
    }
