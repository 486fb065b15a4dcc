-- What a reading of a source gives, and why an evaluation was stopped by a driver.
use Rattle.std.specs.Prelude.{◌≡◌, ◌≢◌, ℕ, Option, Some, Result, Ok, Err, slice_get, ⊤}
use Rattle.kl_value.specs.declared.Value.{Value}
use Rattle.kl_type.specs.Ground.{Ground}
use Rattle.kl_outcome.specs.Outcome.{Name}
use Rattle.kl_outcome.specs.Typed.{Inhabits}
use Rattle.kl_core.specs.Core.{Tables}
use Rattle.kl_core.specs.Typing.{SourceTypes}
use Rattle.kl_ask.specs.Driver.{State, Source, Cause, HasDrifted}
use Rattle.kl_ask.specs.World.{World, Moved, source_at, types_of, values_of}
use Rattle.kl_ask.specs.declared.ask.Drift.{Drift}
use Rattle.kl_ask.specs.declared.session.Attached.{Attached}
use Rattle.kl_ask.specs.declared.DriverError.{DriverError}
use Rattle.kl_ask.specs.declared.DriverError.TheVariants as error
use Rattle.kl_eval.specs.declared.stop.EvalStop.{EvalStop}
use Rattle.kl_eval.specs.declared.stop.EvalStop.TheVariants as stop

-- a reading of a source gives a value of its type, and the one that is told
pub record ReadsSource (S : SourceTypes) (T : Tables) (source : ℕ) (v : Value) : Type 0 where
  pub typed : (t : Ground) → S source ≡ Some t → Inhabits t v
  pub told : (u : Value) → T source ≡ Some u → v ≡ u

-- what a refusal tells of a drift is true of the source
abbrev pub Drifted : DriverError → Option Source → Type 0
Drifted e source = (d : Drift) → e ≡ error.Changed d → (s : Source) → source ≡ Some s → HasDrifted s d

-- The driver of the source of this name refused to go on: on a fault, or because contents that it does not tell drifted.
-- The count rose.
pub record StoppedBy (source : Name) (e : DriverError) (old new : World) : Type 0 where
  pub number : ℕ
  pub listed : Attached
  pub at : slice_get old.sources number ≡ Some listed
  pub named : source ≡ listed.source
  pub before : State
  pub then : State
  pub place : ℕ
  pub held : listed.driver ≡ Some place
  pub was : slice_get old.drivers place ≡ Some before
  pub is : slice_get new.drivers place ≡ Some then
  pub cause : Cause e before then
  pub drifted : Drifted e (source_at old number)
  pub want : e ≢ error.NoMemory

abbrev pub Read : ℕ → Result Value EvalStop → World → World → Type 0
Read source (Ok v) old new = ReadsSource (types_of old) (values_of old) source v
Read source (Err stop.Overflow) old new = ⊥
Read source (Err (stop.Driver name e)) old new = StoppedBy name e old new
Read source (Err stop.NoMemory) old new = ⊤

pub record Tabled (source : ℕ) (r : Result Value EvalStop) (old new : World) : Type 0 where
  pub moved : Moved old new
  pub gives : Read source r old new
