-- What a flat driver means.
use Rattle.std.specs.Prelude.{ℕ, true, false, List, [], length, drop, Option, Some, None, cond, codes, nat_lt}
use Rattle.std.specs.Option.{option_map}
use Rattle.kl_value.specs.declared.Value.{Value}
use Rattle.kl_type.specs.Ground.{ground_of}
use Rattle.kl_type.specs.declared.ground.Ty.{Ty}
use Rattle.kl_outside.specs.Files.{FilesState}
use Rattle.kl_ask.specs.Asks.{answers, item_of, shown_type}
use Rattle.kl_ask.specs.Cursors.{open_at}
use Rattle.kl_ask.specs.Named.{NamedSources, source_named}
use Rattle.kl_ask.specs.Driver.{State, DriverKind, Stored, Missing, Bad, Long, Rows, Source as Attached, Cursor}
use Rattle.kl_ask.specs.declared.ask.Ask.{Ask}
use Rattle.kl_flat.specs.Asked.{keep_of, tests_of}
use Rattle.kl_flat.specs.ColumnTable.{rows_of}
use Rattle.kl_flat.specs.Columns.{is_table_type}
use Rattle.kl_flat.specs.Table.{bad_record, table_rows}
use Rattle.kl_flat.specs.declared.parts.Source.{Source}
use Rattle.kl_flat.specs.declared.parts.Open.{Open}

-- ---- contents

-- the greatest length of a table's file
abbrev pub most_bytes : ℕ
most_bytes = 268435456

abbrev pub stored_rows : List ℕ → Ty → Option ℕ → Stored
stored_rows bytes ty None = Rows (table_rows bytes ty)
stored_rows bytes ty (Some place) = Bad place

abbrev pub stored_bytes : List ℕ → Ty → Stored
stored_bytes bytes ty = cond (nat_lt most_bytes (length bytes)) (Long most_bytes) (stored_rows bytes ty (bad_record bytes ty))

-- what a file holds, read as a table of a type
abbrev pub stored_of : Option (List ℕ) → Ty → Stored
stored_of None ty = Missing
stored_of (Some bytes) ty = stored_bytes bytes ty

-- contents are told where the files tell their bytes, and a locator is a path
abbrev pub contents_of : Option (List ℕ → Option (List ℕ)) → Option (List ℕ → Ty → Stored)
contents_of None = None
contents_of (Some files) = Some (λ locator ty. stored_of (files locator) ty)

-- ---- sources and cursors

-- rows are told where the files tell their bytes
abbrev pub told_only : {A : Type 0} → Option A → List Value → Option (List Value)
told_only None rows = None
told_only (Some told) rows = Some rows

-- attached sources by their names
abbrev pub Sources : Type 0
Sources = NamedSources Source

abbrev pub attached_of : {A : Type 0} → Option A → Source → Attached
attached_of told source = record {
  ty = source.ty;
  rows = told_only told (rows_of source.table);
  count = length (rows_of source.table);
  kept = None;
}

-- the answers that a cursor has left
abbrev pub left_of : Open → List Value
left_of o = answers (drop o.at (rows_of o.table)) (keep_of o.ask) (tests_of o.ask)

abbrev pub cursor_of : {A : Type 0} → Option A → Open → Cursor
cursor_of told o = record {
  ask = o.ask;
  ty = shown_type (keep_of o.ask) (item_of (ground_of o.ty));
  left = told_only told (left_of o);
  bound = length (left_of o);
}

-- ---- the driver

abbrev pub flat_kind : Option (List ℕ → Option (List ℕ)) → DriverKind
flat_kind told = record {
  name = codes "flat";
  abilities = record { select = true; project = true; join = false; unique = false };
  suits = is_table_type;
  most = Some most_bytes;
  stored = contents_of told;
  spells = None;
}

abbrev pub flat_state : FilesState → Sources → List (Option Open) → List (Ask × ℕ) → ℕ → ℕ → State
flat_state files sources cursors asked handed unread = record {
  kind = flat_kind files.told;
  attached = λ name. option_map (attached_of files.told) (source_named sources name);
  cursors = λ k. option_map (cursor_of files.told) (open_at cursors k);
  file = λ k. None;
  read = λ n. None;
  asked = asked;
  handed = handed;
  faults = files.faults;
  drifts = 0;
  unread = unread;
}

-- nothing is attached, no cursor is open, and nothing was asked, handed or unreadable
abbrev pub fresh_state : FilesState → State
fresh_state files = record {
  kind = flat_kind files.told;
  attached = λ name. None;
  cursors = λ k. None;
  file = λ k. None;
  read = λ n. None;
  asked = [];
  handed = 0;
  faults = files.faults;
  drifts = 0;
  unread = 0;
}
