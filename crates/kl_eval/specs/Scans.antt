-- For private functions alone: a whole scan of a source.
use Rattle.std.specs.Prelude.{◌≡◌, ◌≢◌, ℕ, List, [], ◌++◌, Result, Option, Some, None, Ok, Err, Vec, ⊤}
use Rattle.std.specs.List.{AllByRecursion}
use Rattle.std.specs.declared.alloc.Global.{Global}
use Rattle.kl_value.specs.Canon.{canonical}
use Rattle.kl_value.specs.declared.Kind.{Kind}
use Rattle.kl_value.specs.declared.Value.{Value}
use Rattle.kl_type.specs.Ground.{ground_of}
use Rattle.kl_outcome.specs.Outcome.{Name}
use Rattle.kl_outcome.specs.Typed.{Inhabits}
use Rattle.kl_ask.specs.Asks.{columns, item_of, kind_of}
use Rattle.kl_ask.specs.Driver.{State, Cursor, KeepsState, OtherCursors, OpensAt, Cause, source_of}
use Rattle.kl_ask.specs.World.{Quiet}
use Rattle.kl_ask.specs.declared.ask.Ask.{Ask}
use Rattle.kl_ask.specs.declared.ask.Ask.TheVariants as asks
use Rattle.kl_ask.specs.declared.session.Attached.{Attached}
use Rattle.kl_ask.specs.declared.DriverError.{DriverError}
use Rattle.kl_ask.specs.declared.DriverError.TheVariants as error
use Rattle.kl_eval.specs.declared.stop.EvalStop.{EvalStop}
use Rattle.kl_eval.specs.declared.stop.EvalStop.TheVariants as stop
use Rattle.kl_eval.specs.World.{Drifted}

-- the ask for all rows of a source, whole
abbrev pub whole_ask : Attached → Ask
whole_ask a = asks.Rows a.source (columns (item_of (ground_of a.ty))) []

abbrev pub IsWhole : Attached → Ask → Type 0
IsWhole a ask = ask ≡ whole_ask a

-- the number that the rows left do not pass
abbrev pub bound_of : Option Cursor → ℕ
bound_of None = 0
bound_of (Some c) = c.bound

-- what a cursor has handed since it was first
pub record Handed (cursor : ℕ) (into into' : List Value) (first : Cursor) (new : State) : Type 0 where
  pub then : Cursor
  pub rows : List Value
  pub now : new.cursors cursor ≡ Some then
  pub ask : then.ask ≡ first.ask
  pub ty : then.ty ≡ first.ty
  pub appended : into' ≡ into ++ rows
  pub typed : AllByRecursion (Inhabits first.ty) rows
  pub left : (all : List Value) → first.left ≡ Some all → (rest : List Value) × (all ≡ rows ++ rest) × (then.left ≡ Some rest)

-- some pulls of a cursor
pub record Draining (cursor : ℕ) (into into' : List Value) (old new : State) : Type 0 where
  pub keeps : KeepsState old new
  pub attached : new.attached ≡ old.attached
  pub others : OtherCursors cursor old new
  pub rows : (first : Cursor) → old.cursors cursor ≡ Some first → Handed cursor into into' first new

-- all pulls of a cursor
pub record Drained (cursor : ℕ) (into into' : List Value) (old new : State) : Type 0 where
  pub pulls : Draining cursor into into' old new
  pub spent : (first : Cursor) → old.cursors cursor ≡ Some first → (all : List Value) → first.left ≡ Some all → into' ≡ into ++ all

-- pulls of a cursor up to a stop
pub record Stopped (cursor : ℕ) (e : DriverError) (old new : State) : Type 0 where
  pub keeps : KeepsState old new
  pub attached : new.attached ≡ old.attached
  pub others : OtherCursors cursor old new
  pub closed : new.cursors cursor ≡ None
  pub cause : Cause e old new
  pub drifted : (first : Cursor) → old.cursors cursor ≡ Some first → Drifted e (source_of old first.ask)

abbrev pub Drains : ℕ → List Value → List Value → Result (Unit {0}) DriverError → State → State → Type 0
Drains cursor into into' (Ok done) old new = Drained cursor into into' old new
Drains cursor into into' (Err e) old new = Stopped cursor e old new

-- a scan that came to its end: it shows what the cursor had left as it was opened
pub record ScansAll (ask : Ask) (shown : List Value) (old : State) : Type 0 where
  pub cursor : Cursor
  pub fresh : OpensAt ask old cursor
  pub rows : (all : List Value) → cursor.left ≡ Some all → shown ≡ all
  pub typed : AllByRecursion (Inhabits cursor.ty) shown

abbrev pub ScanResult : Ask → Result (Vec Value Global) DriverError → State → State → Type 0
ScanResult ask (Ok shown) old new = ScansAll ask shown.items old
ScanResult ask (Err e) old new = Cause e old new × Drifted e (source_of old ask)

-- a whole scan: start, pulls to the end, finish
pub record Scans (ask : Ask) (result : Result (Vec Value Global) DriverError) (old new : State) : Type 0 where
  pub quiet : Quiet old new
  pub end : ScanResult ask result old new

-- the rows as a collection
abbrev pub Scanned : Kind → Name → Result (Vec Value Global) DriverError → Result Value EvalStop → Type 0
Scanned k source (Ok rows) (Ok v) = v ≡ canonical k rows.items
Scanned k source (Ok rows) (Err e) = e ≡ stop.NoMemory
Scanned k source (Err e) (Ok v) = ⊥
Scanned k source (Err e) (Err stop.Overflow) = ⊥
Scanned k source (Err e) (Err (stop.Driver name f)) = (name ≡ source) × (f ≡ e) × (e ≢ error.NoMemory)
Scanned k source (Err e) (Err stop.NoMemory) = ⊤

-- the value of a source without rows
abbrev pub IsEmptyOf : Attached → Result Value EvalStop → Type 0
IsEmptyOf a (Ok v) = v ≡ canonical (kind_of (ground_of a.ty)) []
IsEmptyOf a (Err e) = e ≡ stop.NoMemory

-- the value of a source, or a stop under its cause
abbrev pub ScanEnd : Attached → Result Value EvalStop → State → State → Type 0
ScanEnd a (Ok v) old new = (shown : List Value) × (v ≡ canonical (kind_of (ground_of a.ty)) shown) × ScansAll (whole_ask a) shown old
ScanEnd a (Err stop.Overflow) old new = ⊥
ScanEnd a (Err (stop.Driver name e)) old new = (name ≡ a.source) × (e ≢ error.NoMemory) × Cause e old new
    × Drifted e (old.attached a.source)
ScanEnd a (Err stop.NoMemory) old new = ⊤

pub record ScansTo (a : Attached) (result : Result Value EvalStop) (old new : State) : Type 0 where
  pub quiet : Quiet old new
  pub end : ScanEnd a result old new
