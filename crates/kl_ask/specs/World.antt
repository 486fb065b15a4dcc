-- What an evaluation sees of a session, and what it leaves.
use Rattle.std.specs.Prelude.{◌≡◌, ◌<◌, ℕ, List, [], Option, Some, None, slice_get}
use Rattle.std.specs.List.{AllByRecursion}
use Rattle.kl_value.specs.Canon.{canonical}
use Rattle.kl_value.specs.declared.Value.{Value}
use Rattle.kl_type.specs.Ground.{Ground, IsProper, ground_of}
use Rattle.kl_outcome.specs.Typed.{Inhabits}
use Rattle.kl_ask.specs.Asks.{item_of, kind_of}
use Rattle.kl_ask.specs.Driver.{State, Source, KeepsState, IsColl}
use Rattle.kl_ask.specs.Lists.{EachSteps}
use Rattle.kl_ask.specs.declared.session.Attached.{Attached}
use Rattle.kl_ask.specs.declared.settings.Settings.{Settings}
use Rattle.kl_ask.specs.declared.settings.Trace.{Trace}

pub record World : Type 0 where
  pub drivers : List State
  pub sources : List Attached
  pub settings : Settings
  pub trace : Trace

-- what the driver of a source has attached under its name
abbrev pub at_driver : Attached → Option State → Option Source
at_driver a (Some d) = d.attached a.source
at_driver a None = None

-- a source that no driver has is there without rows
abbrev pub at_place : Attached → Option ℕ → List State → Option Source
at_place a (Some place) ds = at_driver a (slice_get ds place)
at_place a None ds = Some (record { ty = a.ty; rows = Some []; count = 0; kept = None })

abbrev pub at_source : Option Attached → List State → Option Source
at_source (Some a) ds = at_place a a.driver ds
at_source None ds = None

abbrev pub source_at : World → ℕ → Option Source
source_at w i = at_source (slice_get w.sources i) w.drivers

abbrev pub type_in : Option Source → Option Ground
type_in (Some s) = Some (ground_of s.ty)
type_in None = None

abbrev pub value_of_rows : Ground → Option (List Value) → Option Value
value_of_rows t (Some rows) = Some (canonical (kind_of t) rows)
value_of_rows t None = None

abbrev pub value_in : Option Source → Option Value
value_in (Some s) = value_of_rows (ground_of s.ty) s.rows
value_in None = None

-- The types of the sources that are attached, by their numbers, and their values where contents are told: the canonical
-- collections of their rows.
unfoldable pub types_of : World → ℕ → Option Ground
types_of w i = type_in (source_at w i)

unfoldable pub values_of : World → ℕ → Option Value
values_of w i = value_in (source_at w i)

-- An attached source has the type under which the session lists it. That is a proper one, of a collection, and rows that
-- are told have it.
pub record IsListed (a : Attached) (s : Source) : Type 0 where
  pub ty : s.ty ≡ a.ty
  pub proper : IsProper s.ty
  pub collection : IsColl (ground_of s.ty)
  pub typed : (rows : List Value) → s.rows ≡ Some rows → AllByRecursion (Inhabits (item_of (ground_of s.ty))) rows

-- a session over which a program can run: rows are pulled, and each source that is attached is so as it is listed
pub record IsReady (w : World) : Type 0 where
  pub fetch : 0 < w.settings.fetch
  pub listed : (i : ℕ) (a : Attached) (s : Source) → slice_get w.sources i ≡ Some a → source_at w i ≡ Some s → IsListed a s

-- a driver that may have been scanned: what is attached is as it was, no cursor was left open, and none closed that was
-- open before
pub record Quiet (old new : State) : Type 0 where
  pub keeps : KeepsState old new
  pub attached : new.attached ≡ old.attached
  pub cursors : new.cursors ≡ old.cursors

pub record Moved (old new : World) : Type 0 where
  pub sources : new.sources ≡ old.sources
  pub settings : new.settings ≡ old.settings
  pub trace : new.trace ≡ old.trace
  pub drivers : EachSteps Quiet old.drivers new.drivers
