-- What a driver of made rows means.
use Rattle.std.specs.Prelude.{◌-◌, ℕ, true, false, List, [], Option, Some, None, codes}
use Rattle.std.specs.Option.{option_map}
use Rattle.kl_type.specs.Ground.{Ground, int, str, rec, no_row, row}
use Rattle.kl_value.specs.declared.Value.{Value}
use Rattle.kl_outcome.specs.Outcome.{Name}
use Rattle.kl_ask.specs.Cursors.{open_at}
use Rattle.kl_ask.specs.Named.{NamedSources, source_named}
use Rattle.kl_ask.specs.Driver.{State, DriverKind, Stored, Bad, Rows, Source as Attached, Cursor}
use Rattle.kl_ask.specs.declared.ask.Ask.{Ask}
use Rattle.kl_tools.specs.Made.{made_at, made_rows, rows_from}
use Rattle.kl_tools.specs.Types.{is_made_type}
use Rattle.kl_tools.specs.declared.parts.Source.{Source}
use Rattle.kl_tools.specs.declared.parts.Open.{Open}

-- the type of a made row
abbrev pub made_type : Ground
made_type = rec (row (codes "grp") int (row (codes "id") int (row (codes "name") str no_row)))

-- what a locator names; anything else is a bad source at 0
abbrev pub stored_of : Option (ℕ × ℕ) → Stored
stored_of None = Bad 0
stored_of (Some made) = Rows (made_rows made.0 made.1)

abbrev pub made_kind : DriverKind
made_kind = record {
  name = codes "made";
  abilities = record { select = false; project = false; join = false; unique = true };
  most = None;
  suits = is_made_type;
  stored = Some (λ locator ty. stored_of (made_at locator));
  spells = None;
}

-- attached sources by their names
abbrev pub Sources : Type 0
Sources = NamedSources Source

abbrev pub attached_of : Source → Attached
attached_of source = record { ty = source.ty; rows = Some (made_rows source.seed source.rows); count = source.rows; kept = None }

-- the rows that a cursor has not handed
abbrev pub left_of : Open → List Value
left_of o = rows_from o.source.seed o.at (o.source.rows - o.at)

abbrev pub cursor_of : Open → Cursor
cursor_of o = record { ask = o.ask; ty = made_type; left = Some (left_of o); bound = o.source.rows - o.at }

abbrev pub attached_at : Sources → Name → Option Attached
attached_at sources name = option_map attached_of (source_named sources name)

abbrev pub cursor_at : List (Option Open) → ℕ → Option Cursor
cursor_at cursors k = option_map cursor_of (open_at cursors k)

-- it counts no fault, no drift and no source that it could not read
abbrev pub made_state : Sources → List (Option Open) → List (Ask × ℕ) → ℕ → State
made_state sources cursors asked handed = record {
  kind = made_kind;
  attached = attached_at sources;
  cursors = cursor_at cursors;
  file = λ k. None;
  read = λ n. None;
  asked = asked;
  handed = handed;
  faults = 0;
  drifts = 0;
  unread = 0;
}

-- nothing is attached, no cursor is open, and nothing was asked or handed
abbrev pub fresh_state : State
fresh_state = record {
  kind = made_kind;
  attached = λ name. None;
  cursors = λ k. None;
  file = λ k. None;
  read = λ n. None;
  asked = [];
  handed = 0;
  faults = 0;
  drifts = 0;
  unread = 0;
}
