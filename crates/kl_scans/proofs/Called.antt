-- What the calls for scans do to a session, from what they do to the driver of the scan.
use Rattle.std.proofs.Common.{◌≡◌, ◌≤◌, ⊎_elim, ℕ, ◌+◌, ◌<◌, ◌&&◌, Bool, true, false, List, [], ◌∷◌, length, Option, Some, None, Ok, Err, IsSome, cond, nat_eq, slice_get, refl, sym, ap, ◌∙◌, subst, arith}
use Rattle.std.proofs.lemmas.Option.{same_Some, slice_get_within}
use Rattle.kl_value.specs.declared.Value.{Value}
use Rattle.kl_type.specs.Ground.{ground_of}
use Rattle.kl_ask.specs.Asks.{is_allowed}
use Rattle.kl_ask.specs.Driver.{State, Cursor, CanStart, IsAnswerable, IsAskedSql, Finishes, Cause, HasDriftedTable, OpensAt, source_of}
use Rattle.kl_ask.specs.Statements.{SqlFits, sql_type}
use Rattle.kl_ask.specs.Driver as driver
use Rattle.kl_ask.specs.Lists.{AtIndex, StepsAt}
use Rattle.kl_ask.specs.declared.ask.Ask.{Ask}
use Rattle.kl_ask.specs.declared.ask.Ask.TheVariants as asks
use Rattle.kl_ask.specs.declared.DriverError.{DriverError}
use Rattle.kl_ask.specs.declared.DriverError.TheVariants as error
use Rattle.kl_ask.specs.declared.Drift.{Drift}
use Rattle.kl_sqltext.specs.declared.ast.Spj.{Spj}
use Rattle.kl_ask.proofs.Worlds.{there, error_is}
use Rattle.kl_plan.specs.declared.plan.Scan.{Scan}
use Rattle.kl_eval.specs.World.{Drifted}
use Rattle.kl_eval.specs.declared.stop.EvalStop.{EvalStop}
use Rattle.kl_eval.specs.declared.stop.EvalStop.TheVariants as stop
use Rattle.kl_eval.proofs.Scanning.{not_started}
use Rattle.kl_scans.specs.Held.{Held, held_in, held_at, cursor_in, cursor_at, count_open, open_at, nothing, one_at, Owned}
use Rattle.kl_scans.specs.Running.{Running}
use Rattle.kl_scans.specs.Log.{started, handed, times_after, times_at, CountsStart}
use Rattle.kl_scans.specs.Moves.{Closes}
use Rattle.kl_scans.specs.Scans.{CanScan, DriftedIn, Stopped, StopOf, AreRows, OpensIn, Started, NotStarted, IsOpen, PulledMore, PulledNone, NotPulled, Pulls}
use Rattle.kl_scans.specs.Stage.{stage, table_types, AskOf}
use Rattle.kl_scans.proofs.Counted.{eq_self, eq_other}
use Rattle.kl_scans.proofs.Moving.{unmoved, moves_same}
use Rattle.kl_scans.proofs.Stepped.{uses, CalledAt, Calls, AreOf, Traced, cursor_here, moves_at}

-- the run with other drivers
abbrev pub with_drivers : Running → List State → Running
with_drivers w ds = record {
  drivers = ds;
  sources = w.sources;
  settings = w.settings;
  trace = w.trace;
  memos = w.memos;
  kept = w.kept;
  room = w.room;
}

-- the run after a start
abbrev pub with_starts : Running → List State → List (ℕ × ℕ) → Running
with_starts w ds ss = record {
  drivers = ds;
  sources = w.sources;
  settings = w.settings;
  trace = record { steps = w.trace.steps; starts = ss; joins = w.trace.joins; hits = w.trace.hits; misses = w.trace.misses; peak = w.trace.peak };
  memos = w.memos;
  kept = w.kept;
  room = w.room;
}

-- ---- the driver of a scan

abbrev held_of : State → Held
held_of s = record { abilities = s.kind.abilities; attached = s.attached }

held_is : (o : Option State) (h : Held) → held_in o ≡ Some h → (s : State) × (o ≡ Some s) × (h ≡ held_of s)
held_is (Some s) h e = (s, refl, sym (same_Some _ _ e))
held_is None h e = absurd (none h e)
  where
    none : (k : Held) → None ≡ Some k → ⊥
    none k f = cc

module _ (w : Running) (c : Scan) (can : CanScan w c) where
  pub of_driver : (s : State) × (slice_get w.drivers c.driver ≡ Some s) × (can.1.held ≡ held_of s)
  unfolding stage held_at
  of_driver = held_is (slice_get w.drivers c.driver) can.1.held can.1.holds

  pub place_within : c.driver < length w.drivers
  place_within = slice_get_within w.drivers c.driver of_driver.0 of_driver.1

  pub listed_there : slice_get w.sources can.1.place ≡ Some can.1.entry
  unfolding stage
  listed_there = can.1.listed

  pub has : (of_driver.0).attached c.source ≡ Some can.1.source
  has = ap (λ h. h.attached c.source) (sym of_driver.2) ∙ can.1.attached

  answerable : (ask : Ask) → AskOf (stage w) can.1.held c can.1.source ask can.0 → IsAnswerable of_driver.0 ask
  answerable (asks.Rows source keep tests) h =
      (can.1.source, ap (of_driver.0).attached h.0 ∙ has, subst (λ q. is_allowed q.abilities (ground_of can.1.source.ty) (asks.Rows source keep tests) ≡ true) of_driver.2 h.1, h.2)
  answerable (asks.Sql text) h = (
    h.statement,
    h.reads,
    ap (λ q. q.abilities.join) (sym of_driver.2) ∙ h.join,
    subst (λ q. SqlFits (table_types q.attached) h.statement) of_driver.2 h.fits,
  )

  pub can_start : AtIndex c.driver (λ s. CanStart s c.ask) w.drivers
  can_start s is = subst (λ z. CanStart z c.ask) (same_Some _ _ (sym of_driver.1 ∙ is)) (record { answerable = answerable c.ask can.1.ask })

  -- what is told of a drift is told of the scan's ask
  drifted_in : (e : DriverError) (ask : Ask) → Drifted e (source_of of_driver.0 ask) → ((d : Drift) → e ≡ error.Changed d → (q : Spj) → IsAskedSql ask q → HasDriftedTable of_driver.0 q d) → DriftedIn of_driver.0 ask e
  drifted_in e (asks.Rows source keep tests) one joined = one
  drifted_in e (asks.Sql text) one joined = joined

  pub stopped : (e : DriverError) (f : EvalStop) (b : Running) (y : State) → slice_get b.drivers c.driver ≡ Some y → Cause e of_driver.0 y → DriftedIn of_driver.0 c.ask e → StopOf c.source e f → Stopped c f w b
  stopped e stop.Overflow b y is cause drifted h = absurd h
  stopped e (stop.Driver m g) b y is cause drifted h = (
    h.0,
    record {
      number = can.1.place;
      listed = can.1.entry;
      at = listed_there;
      named = h.0 ∙ can.1.named;
      before = of_driver.0;
      then = y;
      place = c.driver;
      held = can.1.driver;
      was = of_driver.1;
      is = is;
      cause = subst (λ q. Cause q of_driver.0 y) (sym h.1) cause;
      drifted = subst (DriftedIn of_driver.0 c.ask) (sym h.1) drifted;
      want = λ n. h.2 (sym h.1 ∙ n);
    },
  )
  stopped e stop.NoMemory b y is cause drifted h = tt

-- ---- the driver after a call

pub after : (d : ℕ) (P : State → State → Type 0) (xs ys : List State) (x : State) → slice_get xs d ≡ Some x → StepsAt d P xs ys → (y : State) × (slice_get ys d ≡ Some y)
after d P xs ys x was s = there ys d (omega (arith, slice_get_within xs d x was, s.size))

pub called : (d : ℕ) (P : State → State → Type 0) (a b : Running) (x y : State) → slice_get a.drivers d ≡ Some x → slice_get b.drivers d ≡ Some y → StepsAt d P a.drivers b.drivers → CalledAt d a b x y
called d P a b x y was is s = record { size = s.size; others = s.others; was = was; is = is }

none_used : (d k e l : ℕ) → nothing e l ≡ uses d k 0 e l
none_used d k e l = by_case (nat_eq e d && nat_eq l k)
  where
    by_case : (b : Bool) → ◌≡◌ {A = ℕ} 0 (cond b 0 0)
    by_case true = refl
    by_case false = refl

none_of : (d : ℕ) → AreOf d []
none_of d = record { asked = λ e ne x. refl; handed = λ e ne x. refl }

start_of : (c : Scan) → AreOf c.driver (started c ∷ [])
start_of c = record { asked = λ e ne x. rw (eq_other c.driver e (λ is. ne (sym is))) refl; handed = λ e ne x. refl }

rows_of : (c : Scan) (n : ℕ) → AreOf c.driver (handed c n ∷ [])
rows_of c n = record { asked = λ e ne x. refl; handed = λ e ne x. rw (eq_other c.driver e (λ is. ne (sym is))) refl }

untraced : (w : Running) (ds : List State) → Traced [] w (with_drivers w ds)
untraced w ds = record {
  starts = λ n. unmoved (times_after n []) (λ x. refl) (times_at w n);
  numbers = refl;
  steps = refl;
  joins = refl;
  peak = refl;
  hits = refl;
  misses = refl;
  executed = tt;
  memos = refl;
  room = refl;
  kept = refl;
  leaves = refl;
}

rows_traced : (w : Running) (ds : List State) (c : Scan) (m : ℕ) → Traced (handed c m ∷ []) w (with_drivers w ds)
rows_traced w ds c m = record {
  starts = λ n. unmoved (times_after n (handed c m ∷ [])) (λ x. refl) (times_at w n);
  numbers = refl;
  steps = refl;
  joins = refl;
  peak = refl;
  hits = refl;
  misses = refl;
  executed = (tt, tt);
  memos = refl;
  room = refl;
  kept = refl;
  leaves = refl;
}

start_traced : (w : Running) (ds : List State) (ss : List (ℕ × ℕ)) (c : Scan) → CountsStart c.number w.trace.starts ss → Traced (started c ∷ []) w (with_starts w ds ss)
start_traced w ds ss c h = record {
  starts = λ n. h.times n;
  numbers = h.numbers;
  steps = refl;
  joins = refl;
  peak = refl;
  hits = refl;
  misses = refl;
  executed = (tt, tt);
  memos = refl;
  room = refl;
  kept = refl;
  leaves = refl;
}

not_open : {A : Type 0} → count_open None ≡ 1 → A
not_open h = absurd (let e : 0 ≡ 1 = h in omega (arith, e))

-- ---- starts

start_calls : (c : Scan) (k : ℕ) (x y : State) → driver.Starts c.ask (Ok k) x y → Calls c.driver k 0 1 (started c ∷ []) x y
start_calls c k x y s = record {
  stays = record { keeps = s.keeps; attached = s.attached };
  others = s.opens.others;
  balance = rw (s.opens.now, s.opens.free) refl;
  kept = λ z one. not_open (sym (ap count_open s.opens.free) ∙ one);
  asked = rw (eq_self c.driver) s.opens.asked;
  handed = s.handed;
}

refused_calls : (c : Scan) (e : DriverError) (x y : State) → driver.Starts c.ask (Err e) x y → Calls c.driver 0 0 0 [] x y
refused_calls c e x y s = record {
  stays = record { keeps = s.keeps; attached = s.attached };
  others = λ k ne. ap (λ f. f k) s.refused.0;
  balance = ap (λ f. count_open (f 0) + 0) s.refused.0;
  kept = λ z one. ap (λ f. f 0) s.refused.0;
  asked = s.refused.1;
  handed = s.handed;
}

opens_in : (ask : Ask) (s : State) (h : Held) (o : Cursor) → held_of s ≡ h → OpensAt ask s o → OpensIn h ask o
opens_in (asks.Rows source keep tests) s h o e f = λ a at. f a (ap (λ q. q.attached source) e ∙ at)
opens_in (asks.Sql text) s h o e f = λ q r.
    let j = f q r in
    record {
      ty = j.ty ∙ ap (λ k. sql_type (table_types k.attached) q) e;
      left = λ rows are. j.left rows (subst (λ k. AreRows k rows q.tables) (sym e) are);
      told = j.told;
      bound = j.bound;
    }

pub starts : (w : Running) (c : Scan) (k : ℕ) (ds : List State) (ss : List (ℕ × ℕ)) → CanScan w c → StepsAt c.driver (λ x y. driver.Starts c.ask (Ok k) x y) w.drivers ds → CountsStart c.number w.trace.starts ss → Started c k w (with_starts w ds ss)
unfolding held_at
starts w c k ds ss can s count =
    let x = of_driver w c can in
    let y = after c.driver (λ x y. driver.Starts c.ask (Ok k) x y) w.drivers ds x.0 x.1 s in
    let h = s.here x.0 y.0 x.1 y.1 in
    record {
      moves = moves_same (uses c.driver k 0) nothing (uses c.driver k 1) (one_at c.driver k) w (with_starts w ds ss) (none_used c.driver k) (λ e l. refl)
          (moves_at c.driver k 0 1 (started c ∷ []) w (with_starts w ds ss) x.0 y.0 (called c.driver (λ x y. driver.Starts c.ask (Ok k) x y) w (with_starts w ds ss) x.0 y.0 x.1 y.1 s) (start_calls c k x.0 y.0 h)
          refl refl (start_of c) (start_traced w ds ss c count));
      only = refl;
      opened = h.opens.opened;
      now = cursor_here (with_starts w ds ss) c.driver k y.0 y.1 ∙ h.opens.now;
      ask = h.opens.ask_kept;
      opens = λ q e. opens_in c.ask x.0 q h.opens.opened (same_Some _ _ (sym (ap held_in x.1) ∙ e)) h.opens.fresh;
    }

-- a start is never refused as changed
never_changed : (ask : Ask) (e : DriverError) (x y : State) → driver.Starts ask (Err e) x y → (d : Drift) → e ≡ error.Changed d → {A : Type 0} → A
never_changed ask e x y s d is = ⊎_elim (λ f. absurd (let k : error.Failed ≡ error.Changed d = sym (error_is f) ∙ is in cc)) (λ f. absurd (let k : error.NoMemory ≡ error.Changed d = sym (error_is f) ∙ is in cc)) s.no_other

pub starts_not : (w : Running) (c : Scan) (e : DriverError) (f : EvalStop) (ds : List State) → CanScan w c → StepsAt c.driver (λ x y. driver.Starts c.ask (Err e) x y) w.drivers ds → StopOf c.source e f → NotStarted c f w (with_drivers w ds)
starts_not w c e f ds can s stop =
    let x = of_driver w c can in
    let y = after c.driver (λ x y. driver.Starts c.ask (Err e) x y) w.drivers ds x.0 x.1 s in
    let h = s.here x.0 y.0 x.1 y.1 in
    let n = not_started c.ask e x.0 y.0 h in
    record {
      moves = moves_same (uses c.driver 0 0) nothing (uses c.driver 0 0) nothing w (with_drivers w ds) (none_used c.driver 0) (none_used c.driver 0)
          (moves_at c.driver 0 0 0 [] w (with_drivers w ds) x.0 y.0 (called c.driver (λ x y. driver.Starts c.ask (Err e) x y) w (with_drivers w ds) x.0 y.0 x.1 y.1 s) (refused_calls c e x.0 y.0 h)
          refl refl (none_of c.driver) (untraced w ds));
      none = refl;
      cause = stopped w c can e f (with_drivers w ds) y.0 y.1 n.end.0 (drifted_in w c can e c.ask n.end.1 (λ d is q r. never_changed c.ask e x.0 y.0 h d is)) stop;
    }

-- ---- pulls

module _ (w : Running) (c : Scan) (k : ℕ) (into into' : List Value) (ds : List State) (can : CanScan w c) (is_open : IsOpen w c k) where
  abbrev x : State
  x = (of_driver w c can).0

  was_open : x.cursors k ≡ Some is_open.0
  was_open = sym (cursor_here w c.driver k x (of_driver w c can).1) ∙ is_open.1

  pub open_there : AtIndex c.driver (λ s. IsSome (s.cursors k)) w.drivers
  open_there s is = subst (λ z. IsSome (z.cursors k)) (same_Some _ _ (sym (of_driver w c can).1 ∙ is)) (rw was_open refl)

  pub pulls_more : (fetch : ℕ) → fetch ≡ w.settings.fetch → StepsAt c.driver (λ x y. driver.Pulls k fetch into into' (Ok true) x y) w.drivers ds → PulledMore c k into into' w (with_drivers w ds)
  pulls_more fetch same s =
      let at = (of_driver w c can).1 in
      let y = after c.driver (λ x y. driver.Pulls k fetch into into' (Ok true) x y) w.drivers ds x at s in
      let h = s.here x y.0 at y.1 in
      let p = h.answer is_open.0 was_open in
      record {
        moves = moves_at c.driver k 1 1 (handed c (length p.rows) ∷ []) w (with_drivers w ds) x y.0 (called c.driver (λ x y. driver.Pulls k fetch into into' (Ok true) x y) w (with_drivers w ds) x y.0 at y.1 s)
            (record {
              stays = record { keeps = h.keeps; attached = h.attached };
              others = h.others;
              balance = rw (p.now, was_open) refl;
              kept = λ z one. absurd (let e : 1 ≡ 0 = z in omega (arith, e));
              asked = h.asked;
              handed = rw (eq_self c.driver) p.handed;
            })
            refl refl (rows_of c (length p.rows)) (rows_traced w ds c (length p.rows));
        was = is_open.0;
        here = is_open.1;
        then = p.then;
        now = cursor_here (with_drivers w ds) c.driver k y.0 y.1 ∙ p.now;
        rows = p.rows;
        only = refl {a = handed c (length p.rows) ∷ []};
        appended = p.appended;
        hands = subst (λ n. driver.Hands n p.rows is_open.0 p.then) same p.hands;
      }

  pub pulls_none : (fetch : ℕ) → StepsAt c.driver (λ x y. driver.Pulls k fetch into into' (Ok false) x y) w.drivers ds → PulledNone c k into into' w (with_drivers w ds)
  pulls_none fetch s =
      let at = (of_driver w c can).1 in
      let y = after c.driver (λ x y. driver.Pulls k fetch into into' (Ok false) x y) w.drivers ds x at s in
      let h = s.here x y.0 at y.1 in
      let p = h.answer is_open.0 was_open in
      record {
        moves = moves_at c.driver k 1 1 [] w (with_drivers w ds) x y.0 (called c.driver (λ x y. driver.Pulls k fetch into into' (Ok false) x y) w (with_drivers w ds) x y.0 at y.1 s)
            (record {
              stays = record { keeps = h.keeps; attached = h.attached };
              others = h.others;
              balance = rw (p.now, was_open) refl;
              kept = λ z one. absurd (let e : 1 ≡ 0 = z in omega (arith, e));
              asked = h.asked;
              handed = p.handed;
            })
            refl refl (none_of c.driver) (untraced w ds);
        none = refl;
        was = is_open.0;
        here = is_open.1;
        now = cursor_here (with_drivers w ds) c.driver k y.0 y.1 ∙ p.now;
        spent = p.spent;
        same = p.same;
      }

  pub pulls_not : (fetch : ℕ) (e : DriverError) (f : EvalStop) → StepsAt c.driver (λ x y. driver.Pulls k fetch into into' (Err e) x y) w.drivers ds → StopOf c.source e f → NotPulled c k f w (with_drivers w ds)
  pulls_not fetch e f s stop =
      let at = (of_driver w c can).1 in
      let y = after c.driver (λ x y. driver.Pulls k fetch into into' (Err e) x y) w.drivers ds x at s in
      let h = s.here x y.0 at y.1 in
      let p = h.answer is_open.0 was_open in
      record {
        moves = moves_same (uses c.driver k 1) (one_at c.driver k) (uses c.driver k 0) nothing w (with_drivers w ds) (λ e l. refl) (none_used c.driver k)
            (moves_at c.driver k 1 0 [] w (with_drivers w ds) x y.0 (called c.driver (λ x y. driver.Pulls k fetch into into' (Err e) x y) w (with_drivers w ds) x y.0 at y.1 s)
            (record {
              stays = record { keeps = h.keeps; attached = h.attached };
              others = h.others;
              balance = rw (p.closed, was_open) refl;
              kept = λ z one. absurd (let e : 1 ≡ 0 = z in omega (arith, e));
              asked = h.asked;
              handed = p.handed;
            })
            refl refl (none_of c.driver) (untraced w ds));
        none = refl;
        cause = stopped w c can e f (with_drivers w ds) y.0 y.1 p.cause (drifted_in w c can e c.ask (λ d of z has. p.drifted d of z (ap (source_of x) is_open.2 ∙ has)) (λ d of q asked. p.joined_drifted d of q (subst (λ a. IsAskedSql a q) (sym is_open.2) asked))) stop;
      }

  pub pulls : (fetch : ℕ) (more : Bool) → fetch ≡ w.settings.fetch → StepsAt c.driver (λ x y. driver.Pulls k fetch into into' (Ok more) x y) w.drivers ds → Pulls c k into into' (Ok more) w (with_drivers w ds)
  pulls fetch true same s = pulls_more fetch same s
  pulls fetch false same s = pulls_none fetch s

-- ---- ends

module _ (w : Running) (d k : ℕ) (own : Owned (one_at d k) w) where
  pub owner : (s : State) × (o : Cursor) × (slice_get w.drivers d ≡ Some s) × (s.cursors k ≡ Some o)
  unfolding cursor_at
  owner = in_list (slice_get w.drivers d) refl
    where
      least : 1 ≤ open_at w d k
      least = let e : one_at d k d k ≡ 1 = rw (eq_self d, eq_self k) refl in omega (arith, own.each d k, e)

      in_state : (s : State) (q : Option Cursor) → s.cursors k ≡ q → 1 ≤ count_open q → (o : Cursor) × (s.cursors k ≡ Some o)
      in_state s (Some o) e le = (o, e)
      in_state s None e le = absurd (omega (arith, le))

      in_list : (q : Option State) → slice_get w.drivers d ≡ q → (s : State) × (o : Cursor) × (slice_get w.drivers d ≡ Some s) × (s.cursors k ≡ Some o)
      in_list (Some s) e = let o = in_state s (s.cursors k) refl (subst (λ q. 1 ≤ count_open (cursor_in q k)) e least) in (s, o.0, e, o.1)
      in_list None e = absurd (let le : 1 ≤ 0 = subst (λ q. 1 ≤ count_open (cursor_in q k)) e least in omega (arith, le))

  pub owner_within : d < length w.drivers
  owner_within = slice_get_within w.drivers d owner.0 owner.2

  pub owned_there : AtIndex d (λ s. IsSome (s.cursors k)) w.drivers
  owned_there s is = subst (λ z. IsSome (z.cursors k)) (same_Some _ _ (sym owner.2 ∙ is)) (rw owner.3 refl)

  pub closes : (ds : List State) → StepsAt d (λ x y. Finishes k x y) w.drivers ds → Closes (one_at d k) w (with_drivers w ds)
  closes ds s =
      let y = after d (λ x y. Finishes k x y) w.drivers ds owner.0 owner.2 s in
      let h = s.here owner.0 y.0 owner.2 y.1 in
      record {
        moves = moves_same (uses d k 1) (one_at d k) (uses d k 0) nothing w (with_drivers w ds) (λ e l. refl) (none_used d k)
            (moves_at d k 1 0 [] w (with_drivers w ds) owner.0 y.0 (called d (λ x y. Finishes k x y) w (with_drivers w ds) owner.0 y.0 owner.2 y.1 s)
            (record {
              stays = record { keeps = h.keeps; attached = h.attached };
              others = h.others;
              balance = rw (h.closed, owner.3) refl;
              kept = λ z one. absurd (let e : 1 ≡ 0 = z in omega (arith, e));
              asked = h.asked;
              handed = h.handed;
            })
            refl refl (none_of d) (untraced w ds));
        none = refl;
      }
