-- What is done while a plan is run, in order, and what is counted of it.
use Rattle.std.specs.Prelude.{◌≡◌, ℕ, ◌+◌, ◌^◌, ◌-◌, min, max, true, false, List, [], ◌∷◌, ◌++◌, map, Option, cond, nat_eq, slice_get, ⊤}
use Rattle.std.specs.List.{Contains, AllByRecursion}
use Rattle.std.specs.Option.{option_map}
use Rattle.kl_value.specs.declared.Value.{Value}
use Rattle.kl_ask.specs.Asked.{with_ask, raised_by}
use Rattle.kl_ask.specs.declared.ask.Ask.{Ask}
use Rattle.kl_ask.specs.declared.settings.JoinHow.{JoinHow}
use Rattle.kl_ask.specs.declared.settings.JoinHow.TheVariants as how
use Rattle.kl_ask.specs.declared.settings.JoinRun.{JoinRun}
use Rattle.kl_lookups.specs.Lookups.{has, moved_up, kept_with}
use Rattle.kl_plan.specs.declared.plan.Scan.{Scan}
use Rattle.kl_plan.specs.Holding.{Listing}
use Rattle.kl_plan.specs.Nodes.{Node}
use Rattle.kl_plan.specs.Prices.{Prices, inner_starts}
use Rattle.kl_plan.specs.Reached.{reached}
use Rattle.kl_plan.specs.Subqueries.{Subquery, values_at, Covers}
use Rattle.kl_scans.specs.Running.{Running}
use Rattle.kl_scans.specs.Same.{same_subquery}
use Rattle.kl_scans.specs.Stage.{Stage, readings}

pub data Event : Type 0 where
  -- a scan was started, by itself or as the inner part of a join, or it was handed so many rows
  started : Scan → Event
  handed : Scan → ℕ → Event
  -- a join was executed to its end: its number and way, how many outer rows passed, and how often its inner scan was started
  joined : ℕ → JoinHow → ℕ → ℕ → Event
  -- a look-up found no value under this key, and this one was kept then
  missed : Subquery → Value → Event
  -- a look-up found a value: the number, the free positions and the part of the memo, and the values of all positions there
  hit : ℕ → List ℕ → Node → List Value → Event

-- the scans, joins and memos of an event are listed
abbrev pub IsOf : Listing → Event → Type 0
IsOf all (started c) = Contains all.scans c
IsOf all (handed c n) = Contains all.scans c
IsOf all (joined n way outer starts) = Contains all.joins (n, way)
IsOf all (missed k v) = (frees : List ℕ) × (p : Node) × Contains all.memos (k.0, (frees, p))
IsOf all (hit n frees p env) = Contains all.memos (n, (frees, p)) × Covers frees env

-- What was done comes to, where each thing has a price: what a look-up spares that finds a value is paid as if it had been done.
abbrev pub paid : Stage → Prices → List Event → ℕ
paid t P [] = 0
paid t P (started c ∷ es) = P.scan c + paid t P es
paid t P (handed c n ∷ es) = paid t P es
paid t P (joined n way outer starts ∷ es) = P.join n way outer + paid t P es
paid t P (missed k v ∷ es) = P.memo k.0 k.1 + paid t P es
paid t P (hit n frees p env ∷ es) = (P.memo n (values_at env frees) + reached (readings t) t.block P p env) + paid t P es

-- ---- counts, after some events

-- how often the scan of a number was started
abbrev pub times_after : ℕ → List Event → ℕ → ℕ
times_after n [] times = times
times_after n (started c ∷ es) times = times_after n es (cond (nat_eq c.number n) (raised_by 1 times) times)
times_after n (_ ∷ es) times = times_after n es times

-- what a driver was asked
abbrev pub asked_after : ℕ → List Event → List (Ask × ℕ) → List (Ask × ℕ)
asked_after d [] asked = asked
asked_after d (started c ∷ es) asked = asked_after d es (cond (nat_eq c.driver d) (with_ask c.ask asked) asked)
asked_after d (_ ∷ es) asked = asked_after d es asked

-- how many rows a driver handed
abbrev pub handed_after : ℕ → List Event → ℕ → ℕ
handed_after d [] rows = rows
handed_after d (handed c m ∷ es) rows = handed_after d es (cond (nat_eq c.driver d) (raised_by m rows) rows)
handed_after d (_ ∷ es) rows = handed_after d es rows

-- the entries of executions of joins; a count stands still at its greatest value
abbrev pub counted : ℕ → ℕ
counted n = min n (2 ^ 64 - 1)

abbrev pub entries_after : List Event → List JoinRun → List JoinRun
entries_after [] joins = joins
entries_after (joined n way outer starts ∷ es) joins =
    entries_after es (joins ++ record { join = n; outer = counted outer; starts = counted starts } ∷ [])
entries_after (_ ∷ es) joins = entries_after es joins

-- the most rows of a block of an execution of a join
abbrev pub fullest : ℕ → JoinHow → ℕ → ℕ
fullest block how.Block outer = min outer block
fullest block how.Index outer = 0

abbrev pub peak_after : ℕ → List Event → ℕ → ℕ
peak_after block [] peak = peak
peak_after block (joined n way outer starts ∷ es) peak = peak_after block es (max peak (fullest block way outer))
peak_after block (_ ∷ es) peak = peak_after block es peak

-- how many look-ups found a value, and how many found none
abbrev pub hits_after : List Event → ℕ → ℕ
hits_after [] hits = hits
hits_after (hit n frees p env ∷ es) hits = hits_after es (raised_by 1 hits)
hits_after (_ ∷ es) hits = hits_after es hits

abbrev pub misses_after : List Event → ℕ → ℕ
misses_after [] misses = misses
misses_after (missed k v ∷ es) misses = misses_after es (raised_by 1 misses)
misses_after (_ ∷ es) misses = misses_after es misses

-- What look-ups find and leave of what is kept, where there is room for so many values: a pair that is found goes to the front, and one
-- that is not is kept in front; of more pairs than there may be, the last goes, which was not used for longest.
abbrev pub Leaves : ℕ → List Event → List (Subquery × Value) → List (Subquery × Value) → Type 0
Leaves room [] old new = new ≡ old
Leaves room (missed k v ∷ es) old new =
    (has same_subquery k old ≡ false) × Leaves room es (kept_with same_subquery room k v old) new
Leaves room (hit n frees p env ∷ es) old new =
    (has same_subquery (n, values_at env frees) old ≡ true)
    × Leaves room es (moved_up same_subquery (n, values_at env frees) old) new
Leaves room (_ ∷ es) old new = Leaves room es old new

-- each execution of a join started its inner scan as often as it has to
abbrev pub StartsFit : ℕ → Event → Type 0
StartsFit block (joined n way outer starts) = starts ≡ inner_starts block way outer
StartsFit block _ = ⊤

-- ---- in a session

-- how often the scan of a number was started, where that is counted
abbrev pub times_at : Running → ℕ → Option ℕ
times_at w n = option_map (λ e. e.1) (slice_get w.trace.starts n)

abbrev pub asked_at : Running → ℕ → Option (List (Ask × ℕ))
asked_at w d = option_map (λ s. s.asked) (slice_get w.drivers d)

abbrev pub rows_at : Running → ℕ → Option ℕ
rows_at w d = option_map (λ s. s.handed) (slice_get w.drivers d)

-- the entry at a place counts one start more, where there is one
pub record CountsStart (number : ℕ) (old new : List (ℕ × ℕ)) : Type 0 where
  pub times : (n : ℕ) → option_map (λ e. e.1) (slice_get new n)
      ≡ option_map (λ times. cond (nat_eq number n) (raised_by 1 times) times) (option_map (λ e. e.1) (slice_get old n))
  pub numbers : map (λ e. e.0) new ≡ map (λ e. e.0) old

-- these events were counted, and no others
pub record Logged (es : List Event) (a b : Running) : Type 0 where
  pub starts : (n : ℕ) → times_at b n ≡ option_map (times_after n es) (times_at a n)
  pub asked : (d : ℕ) → asked_at b d ≡ option_map (asked_after d es) (asked_at a d)
  pub handed : (d : ℕ) → rows_at b d ≡ option_map (handed_after d es) (rows_at a d)
  -- each count of starts is of the scan of which it was
  pub numbers : map (λ e. e.0) b.trace.starts ≡ map (λ e. e.0) a.trace.starts
  pub steps : b.trace.steps ≡ a.trace.steps
  pub joins : b.trace.joins ≡ entries_after es a.trace.joins
  pub peak : b.trace.peak ≡ peak_after a.settings.block es a.trace.peak
  pub hits : b.trace.hits ≡ hits_after es a.trace.hits
  pub misses : b.trace.misses ≡ misses_after es a.trace.misses
  pub executed : AllByRecursion (StartsFit a.settings.block) es
  pub room : b.room ≡ a.room
  pub kept : Leaves a.room es a.kept b.kept
