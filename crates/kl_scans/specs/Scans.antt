-- What the calls for scans do.
use Rattle.std.specs.Prelude.{◌≡◌, ◌≢◌, ◌≤◌, ◌^◌, ℕ, Bool, true, false, List, [], ◌∷◌, ◌++◌, length, slice_get, Result, Some, Ok, Err, ⊤}
use Rattle.std.specs.List.{AllByRecursion}
use Rattle.std.specs.List.Sorted.{IsPermutation}
use Rattle.kl_value.specs.declared.Value.{Value}
use Rattle.kl_type.specs.Ground.{Ground, ground_of}
use Rattle.kl_ask.specs.Driver.{State, Source, Cursor, IsFresh, Hands, IsSpent, Cause, HasDriftedTable, emptied}
use Rattle.kl_ask.specs.Statements.{sql_type}
use Rattle.kl_scans.specs.Running.{Running}
use Rattle.kl_ask.specs.declared.ask.Ask.{Ask}
use Rattle.kl_ask.specs.declared.ask.Ask.TheVariants as asks
use Rattle.kl_ask.specs.declared.session.Attached.{Attached}
use Rattle.kl_ask.specs.declared.DriverError.{DriverError}
use Rattle.kl_ask.specs.declared.DriverError.TheVariants as error
use Rattle.kl_ask.specs.declared.Drift.{Drift}
use Rattle.kl_sqltext.specs.Meaning.{spj}
use Rattle.kl_sqltext.specs.Reading.{SqlReads}
use Rattle.kl_sqltext.specs.declared.ast.Spj.{Spj}
use Rattle.kl_outcome.specs.Outcome.{Name}
use Rattle.kl_plan.specs.declared.plan.Scan.{Scan}
use Rattle.kl_eval.specs.World.{Drifted}
use Rattle.kl_eval.specs.declared.stop.EvalStop.{EvalStop}
use Rattle.kl_eval.specs.declared.stop.EvalStop.TheVariants as stop
use Rattle.kl_scans.specs.Held.{Held, held_at, cursor_at, nothing, one_at}
use Rattle.kl_scans.specs.Log.{started, handed}
use Rattle.kl_scans.specs.Moves.{Moves}
use Rattle.kl_scans.specs.Stage.{stage, table_types, AsksWholeSet, ScanOf}

abbrev pub CanScan : Running → Scan → Type 0
CanScan w c = (u : Ground) × ScanOf (stage w) c u

-- a listed source that is the scan's, a set of which all rows are asked, whole
abbrev pub IsWholeSet : Attached → Scan → Type 0
IsWholeSet a c = (a.source ≡ c.source) × (a.driver ≡ Some c.driver) × AsksWholeSet (ground_of a.ty) c.ask

abbrev pub ListsWholeSet : List Attached → Scan → Type 0
ListsWholeSet all c = (i : ℕ) × (a : Attached) × (slice_get all i ≡ Some a) × IsWholeSet a c

-- what a refusal tells of a drift is true of the source that was asked, or of one of the tables of the statement
abbrev pub DriftedIn : State → Ask → DriverError → Type 0
DriftedIn s (asks.Rows source keep tests) e = Drifted e (s.attached source)
DriftedIn s (asks.Sql text) e = (d : Drift) → e ≡ error.Changed d → (q : Spj) → SqlReads text q → HasDriftedTable s q d

-- The driver of the scan's source refused to go on: on a fault, or because contents that it does not tell drifted. The count rose.
pub record StoppedBy (c : Scan) (source : Name) (e : DriverError) (old new : Running) : Type 0 where
  pub number : ℕ
  pub listed : Attached
  pub at : slice_get old.sources number ≡ Some listed
  pub named : source ≡ listed.source
  pub before : State
  pub then : State
  pub place : ℕ
  pub held : listed.driver ≡ Some place
  pub was : slice_get old.drivers place ≡ Some before
  pub is : slice_get new.drivers place ≡ Some then
  pub cause : Cause e before then
  pub drifted : DriftedIn before c.ask e
  pub want : e ≢ error.NoMemory

-- Why a scan is stopped: never by an overflow; and where its driver refused to go on, that has its cause.
abbrev pub Stopped : Scan → EvalStop → Running → Running → Type 0
Stopped c stop.Overflow a b = ⊥
Stopped c (stop.Driver l e) a b = (l ≡ c.source) × StoppedBy c l e a b
Stopped c stop.NoMemory a b = ⊤

-- a driver's refusal, as a stop at the source of this name
abbrev pub StopOf : Name → DriverError → EvalStop → Type 0
StopOf l e stop.Overflow = ⊥
StopOf l e (stop.Driver m f) = (m ≡ l) × (f ≡ e) × (e ≢ error.NoMemory)
StopOf l e stop.NoMemory = ⊤

-- ---- the start of a scan

-- what is told of the rows of these tables is this
abbrev pub AreRows : Held → (Name → List Value) → List Name → Type 0
AreRows h rows tables = AllByRecursion (λ l. (a : Source) × (h.attached l ≡ Some a) × (a.rows ≡ Some (rows l))) tables

-- A cursor over a statement that has handed nothing yet: where contents are told, it may hand exactly the rows that the statement
-- means, in some order.
pub record IsJoined (h : Held) (q : Spj) (o : Cursor) : Type 0 where
  pub ty : o.ty ≡ sql_type (table_types h.attached) q
  pub left : (rows : Name → List Value) → AreRows h rows q.tables → (shown : List Value) × (o.left ≡ Some shown)
      × IsPermutation (spj rows q) shown
  pub told : (shown : List Value) → o.left ≡ Some shown → o.bound ≡ length shown
  pub bound : o.bound ≤ (2 ^ 64) ^ length q.tables

-- a cursor as an ask of a driver opens it
abbrev pub OpensIn : Held → Ask → Cursor → Type 0
OpensIn h (asks.Rows source keep tests) o = (a : Source) → h.attached source ≡ Some a → IsFresh keep tests a o
OpensIn h (asks.Sql text) o = (q : Spj) → SqlReads text q → IsJoined h q o

pub record Started (c : Scan) (k : ℕ) (a b : Running) : Type 0 where
  pub moves : Moves nothing (one_at c.driver k) a b
  pub only : moves.events ≡ started c ∷ []
  pub opened : Cursor
  pub now : cursor_at b c.driver k ≡ Some opened
  pub ask : opened.ask ≡ c.ask
  pub opens : (h : Held) → held_at a c.driver ≡ Some h → OpensIn h c.ask opened

pub record NotStarted (c : Scan) (e : EvalStop) (a b : Running) : Type 0 where
  pub moves : Moves nothing nothing a b
  pub none : moves.events ≡ []
  pub cause : Stopped c e a b

abbrev pub Starts : Scan → Result ℕ EvalStop → Running → Running → Type 0
Starts c (Ok k) a b = Started c k a b
Starts c (Err e) a b = NotStarted c e a b

-- ---- a pull

-- a cursor of a scan is open
abbrev pub IsOpen : Running → Scan → ℕ → Type 0
IsOpen w c k = (o : Cursor) × (cursor_at w c.driver k ≡ Some o) × (o.ask ≡ c.ask)

pub record PulledMore (c : Scan) (k : ℕ) (into into' : List Value) (a b : Running) : Type 0 where
  pub moves : Moves (one_at c.driver k) (one_at c.driver k) a b
  pub was : Cursor
  pub here : cursor_at a c.driver k ≡ Some was
  pub then : Cursor
  pub now : cursor_at b c.driver k ≡ Some then
  pub rows : List Value
  pub only : moves.events ≡ handed c (length rows) ∷ []
  pub appended : into' ≡ into ++ rows
  pub hands : Hands a.settings.fetch rows was then

pub record PulledNone (c : Scan) (k : ℕ) (into into' : List Value) (a b : Running) : Type 0 where
  pub moves : Moves (one_at c.driver k) (one_at c.driver k) a b
  pub none : moves.events ≡ []
  pub was : Cursor
  pub here : cursor_at a c.driver k ≡ Some was
  pub now : cursor_at b c.driver k ≡ Some (emptied was)
  pub spent : IsSpent was
  pub same : into' ≡ into

pub record NotPulled (c : Scan) (k : ℕ) (e : EvalStop) (a b : Running) : Type 0 where
  pub moves : Moves (one_at c.driver k) nothing a b
  pub none : moves.events ≡ []
  pub cause : Stopped c e a b

abbrev pub Pulls : Scan → ℕ → List Value → List Value → Result Bool EvalStop → Running → Running → Type 0
Pulls c k into into' (Ok true) a b = PulledMore c k into into' a b
Pulls c k into into' (Ok false) a b = PulledNone c k into into' a b
Pulls c k into into' (Err e) a b = NotPulled c k e a b
