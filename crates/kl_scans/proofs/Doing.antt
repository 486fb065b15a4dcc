-- What is done beside scans: look-ups, what is kept, and executions of joins that have ended.
use Rattle.std.proofs.Common.{◌≡◌, ℕ, ◌+◌, true, List, [], ◌∷◌, ◌++◌, max, Option, Some, slice_get, refl, sym, ap, ◌∙◌, subst}
use Rattle.std.specs.Option.{is_some}
use mathlib.Core.Path.{ap₂}
use Rattle.kl_value.specs.declared.Value.{Value}
use Rattle.kl_ask.specs.Asked.{raised_by}
use Rattle.kl_ask.specs.Driver.{State}
use Rattle.kl_ask.specs.Lists.{EachSteps}
use Rattle.kl_ask.specs.declared.session.Attached.{Attached}
use Rattle.kl_ask.specs.declared.settings.JoinHow.{JoinHow}
use Rattle.kl_ask.specs.declared.settings.JoinRun.{JoinRun}
use Rattle.kl_ask.specs.declared.settings.Settings.{Settings}
use Rattle.kl_ask.specs.declared.settings.Trace.{Trace}
use Rattle.kl_lookups.specs.Lookups.{has, moved_up, kept_with}
use Rattle.kl_lookups.proofs.Lookups.{moved_has}
use Rattle.kl_memo.specs.Memo as memo
use Rattle.kl_memo.specs.Memo.{Kept, kept_at}
use Rattle.kl_memo.specs.declared.memo.MemoKey.{MemoKey}
use Rattle.kl_plan.specs.Nodes.{Node}
use Rattle.kl_plan.specs.Subqueries.{Memo, Subquery, values_at}
use Rattle.kl_scans.specs.Held.{cursor_in, cursor_at, count_open, nothing}
use Rattle.kl_scans.specs.Keeping.{subquery, kept_in, room_in}
use Rattle.kl_scans.specs.Log.{Event, joined, missed, hit, times_after, asked_after, handed_after, counted, Logged}
use Rattle.kl_scans.specs.Moves.{Stays, Moves}
use Rattle.kl_scans.specs.Over.{Did, MayKeep, IsEntry}
use Rattle.kl_scans.specs.Right.{AreRight, IsRightFor}
use Rattle.kl_scans.specs.Running.{Running}
use Rattle.kl_scans.specs.Same.{same_subquery}
use Rattle.kl_scans.specs.Stage.{stage}
use Rattle.kl_scans.proofs.Kept.{has_kept, moved_kept, kept_more, moved_all, kept_all}
use Rattle.kl_scans.proofs.Moving.{unmoved, stage_on, moves_none}

drivers_same : (a b : Running) → b.drivers ≡ a.drivers → (d k : ℕ) → cursor_at b d k ≡ cursor_at a d k
unfolding cursor_at
drivers_same a b same d k = ap (λ ds. cursor_in (slice_get ds d) k) same

-- no driver is called
abbrev moves_still : (es : List Event) (a b : Running) → b.drivers ≡ a.drivers → b.sources ≡ a.sources → b.settings ≡ a.settings → b.memos ≡ a.memos
    → (AreRight (stage a) a.kept → AreRight (stage a) b.kept) → Logged es a b → Moves nothing nothing a b
moves_still es a b drivers sources settings memos right logged =
    let steps : EachSteps Stays a.drivers b.drivers = subst (λ (ds : List State). EachSteps Stays a.drivers ds) (sym drivers) (moves_none nothing a).drivers in
    record {
      sources = sources;
      settings = settings;
      drivers = steps;
      balance = λ d k. ap (λ o. count_open o + 0) (drivers_same a b drivers d k);
      others = λ d k e f. drivers_same a b drivers d k;
      memos = memos;
      right = λ h. subst (λ t. AreRight t b.kept) (sym (stage_on a b steps sources settings memos)) (right h);
      events = es;
      logged = logged;
    }

-- a run with other counts and another cache
abbrev pub with_cache : Running → Trace → Kept → Running
with_cache w trace m = record {
  drivers = w.drivers;
  sources = w.sources;
  settings = w.settings;
  trace = trace;
  memos = w.memos;
  kept = kept_in (Some m);
  room = m.capacity;
}

abbrev pub with_looks : Trace → ℕ → ℕ → Trace
with_looks t hits misses = record { steps = t.steps; starts = t.starts; joins = t.joins; hits = hits; misses = misses; peak = t.peak }

module _ (w : Running) (key : MemoKey) (m m' : Kept) (kept : w.kept ≡ kept_in (Some m)) (room : w.room ≡ m.capacity) where
  -- a look-up that finds a value
  pub recalls : (hits : ℕ) → m' ≡ memo.looked_up key m → is_some (kept_at key m) ≡ true → hits ≡ raised_by 1 w.trace.hits
      → (frees : List ℕ) (p : Node) (env : List Value) → values_at env frees ≡ key.values
      → Did (hit key.number frees p env) w (with_cache w (with_looks w.trace hits w.trace.misses) m')
  recalls hits after found raised frees p env values = record {
    moves = moves_still (hit key.number frees p env ∷ []) w b refl refl refl refl
        (λ h. subst (AreRight (stage w)) (sym is) (moved_all (λ e. IsRightFor (stage w) e.0 e.1) (key.number, values_at env frees) w.kept h))
        (record {
          starts = λ n. unmoved (times_after n (hit key.number frees p env ∷ [])) (λ x. refl) _;
          asked = λ d. unmoved (asked_after d (hit key.number frees p env ∷ [])) (λ x. refl) _;
          handed = λ d. unmoved (handed_after d (hit key.number frees p env ∷ [])) (λ x. refl) _;
          numbers = refl;
          steps = refl;
          joins = refl;
          peak = refl;
          hits = raised;
          misses = refl;
          executed = (tt, tt);
          room = ap (λ (k : Kept). k.capacity) after ∙ sym room;
          kept = (has_it, is);
        });
    only = refl;
  }
    where
      b : Running
      b = with_cache w (with_looks w.trace hits w.trace.misses) m'

      same : (key.number, values_at env frees) ≡ subquery key
      same = ap (λ (vs : List Value). (key.number, vs)) values

      has_it : has same_subquery (key.number, values_at env frees) w.kept ≡ true
      has_it = ap (λ (q : Subquery). has same_subquery q w.kept) same ∙ ap (has same_subquery (subquery key)) kept ∙ has_kept key m ∙ found

      is : kept_in (Some m') ≡ moved_up same_subquery (key.number, values_at env frees) w.kept
      is = ap (λ (k : Kept). kept_in (Some k)) after ∙ moved_kept key m ∙ ap (moved_up same_subquery (subquery key)) (sym kept)
          ∙ ap (λ (q : Subquery). moved_up same_subquery q w.kept) (sym same)

  -- what is kept behind a look-up that found none
  pub keeps : (v : Value) (misses : ℕ) → m' ≡ memo.kept_with key v m → MayKeep (subquery key) v w → misses ≡ raised_by 1 w.trace.misses
      → Did (missed (subquery key) v) w (with_cache w (with_looks w.trace w.trace.hits misses) m')
  keeps v misses after may raised = record {
    moves = moves_still (missed (subquery key) v ∷ []) w b refl refl refl refl
        (λ h. subst (AreRight (stage w)) (sym is) (kept_all (λ e. IsRightFor (stage w) e.0 e.1) w.room (subquery key) v w.kept may.none may.right h))
        (record {
          starts = λ n. unmoved (times_after n (missed (subquery key) v ∷ [])) (λ x. refl) _;
          asked = λ d. unmoved (asked_after d (missed (subquery key) v ∷ [])) (λ x. refl) _;
          handed = λ d. unmoved (handed_after d (missed (subquery key) v ∷ [])) (λ x. refl) _;
          numbers = refl;
          steps = refl;
          joins = refl;
          peak = refl;
          hits = refl;
          misses = raised;
          executed = (tt, tt);
          room = ap (λ (k : Kept). k.capacity) after ∙ sym room;
          kept = (may.none, is);
        });
    only = refl;
  }
    where
      b : Running
      b = with_cache w (with_looks w.trace w.trace.hits misses) m'

      is : kept_in (Some m') ≡ kept_with same_subquery w.room (subquery key) v w.kept
      is = ap (λ (k : Kept). kept_in (Some k)) after ∙ kept_more key m v (ap (has same_subquery (subquery key)) (sym kept) ∙ may.none)
          ∙ ap (λ (es : List (Subquery × Value)). kept_with same_subquery m.capacity (subquery key) v es) (sym kept)
          ∙ ap (λ n. kept_with same_subquery n (subquery key) v w.kept) (sym room)

-- the pair that a look-up found is still there behind it
pub found_stays : (key : MemoKey) (m m' : Kept) → m' ≡ memo.looked_up key m → is_some (kept_at key m) ≡ true → has same_subquery (subquery key) (kept_in (Some m')) ≡ true
found_stays key m m' after found =
    let there : has same_subquery (subquery key) (kept_in (Some m)) ≡ true = has_kept key m ∙ found in
    ap (λ (c : Kept). has same_subquery (subquery key) (kept_in (Some c))) after ∙ ap (has same_subquery (subquery key)) (moved_kept key m)
    ∙ moved_has same_subquery (subquery key) (subquery key) (kept_in (Some m)) there ∙ there

-- the same run, of whose cache it is known that there is one
pub same_run : (ds : List State) (ss : List Attached) (st : Settings) (tr : Trace) (ms : List Memo) (o : Option Kept) (m : Kept) → o ≡ Some m
    → ◌≡◌ {A = Running} (record { drivers = ds; sources = ss; settings = st; trace = tr; memos = ms; kept = kept_in (Some m); room = room_in (Some m) })
    (record { drivers = ds; sources = ss; settings = st; trace = tr; memos = ms; kept = kept_in o; room = room_in o })
same_run ds ss st tr ms o m is =
    ap (λ (c : Option Kept). record { drivers = ds; sources = ss; settings = st; trace = tr; memos = ms; kept = kept_in c; room = room_in c }) (sym is)

-- an execution of a join has ended
abbrev pub with_joins : Running → List JoinRun → ℕ → Running
with_joins w joins peak = record {
  drivers = w.drivers;
  sources = w.sources;
  settings = w.settings;
  trace = record { steps = w.trace.steps; starts = w.trace.starts; joins = joins; hits = w.trace.hits; misses = w.trace.misses; peak = peak };
  memos = w.memos;
  kept = w.kept;
  room = w.room;
}

pub ended : (w : Running) (e : JoinRun) (most : ℕ) (joins : List JoinRun) (peak : ℕ) → joins ≡ w.trace.joins ++ e ∷ [] → peak ≡ max w.trace.peak most
    → (way : JoinHow) (outer starts : ℕ) → IsEntry w.settings.block way outer starts e most → Did (joined e.join way outer starts) w (with_joins w joins peak)
ended w e most joins peak pushed highest way outer starts entry = record {
  moves = moves_still (joined e.join way outer starts ∷ []) w (with_joins w joins peak) refl refl refl refl (λ h. h)
      (record {
        starts = λ n. unmoved (times_after n (joined e.join way outer starts ∷ [])) (λ x. refl) _;
        asked = λ d. unmoved (asked_after d (joined e.join way outer starts ∷ [])) (λ x. refl) _;
        handed = λ d. unmoved (handed_after d (joined e.join way outer starts ∷ [])) (λ x. refl) _;
        numbers = refl;
        steps = refl;
        joins = pushed ∙ ap (λ (x : JoinRun). w.trace.joins ++ x ∷ []) same;
        peak = highest ∙ ap (λ n. max w.trace.peak n) entry.most;
        hits = refl;
        misses = refl;
        executed = (entry.fit, tt);
        room = refl;
        kept = refl;
      });
  only = refl;
}
  where
    same : e ≡ record { join = e.join; outer = counted outer; starts = counted starts }
    same = ap₂ (λ m n. record { join = e.join; outer = m; starts = n }) entry.rows entry.times
