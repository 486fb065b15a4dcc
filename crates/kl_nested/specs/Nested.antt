-- What a driver of files of values means.
use Rattle.std.specs.Prelude.{Bool, true, false, ℕ, ◌-◌, List, [], Option, Some, None, codes, cond, drop}
use Rattle.std.specs.Option.{option_map}
use Rattle.kl_value.specs.declared.Value.{Value}
use Rattle.kl_type.specs.Ground.{ground_of}
use Rattle.kl_type.specs.declared.ground.Ty.{Ty, Ty-F, out-Ty}
use Rattle.kl_outside.specs.Files.{FilesState, Seen, seen_in}
use Rattle.kl_ask.specs.Asks.{item_of}
use Rattle.kl_ask.specs.Cursors.{open_at}
use Rattle.kl_ask.specs.Named.{NamedSources, source_named}
use Rattle.kl_ask.specs.Driver.{State, DriverKind, ReadSoFar, Source as Attached, Cursor, stored_by, told_rows}
use Rattle.kl_ask.specs.declared.ask.Ask.{Ask}
use Rattle.kl_ask.specs.declared.ask.Head.{Head}
use Rattle.kl_nested.specs.Contents.{contents_of, head_as, item_ty, spelt_in}
use Rattle.kl_nested.specs.declared.parts.Source.{Source}
use Rattle.kl_nested.specs.declared.parts.Open.{Open}

-- what the files tell of their bytes
abbrev pub Tells : Type 0
Tells = Option (List ℕ → Option (List ℕ))

abbrev pub is_coll_layer : Ty-F Ty → Bool
is_coll_layer (Ty-F.Coll k t) = true
is_coll_layer _ = false

abbrev pub is_collection : Ty → Bool
is_collection t = is_coll_layer (out-Ty t)

abbrev pub nested_kind : ℕ → Tells → DriverKind
nested_kind limit told = record {
  name = codes "nested";
  abilities = record { select = false; project = false; join = false; unique = false };
  suits = is_collection;
  most = Some limit;
  stored = contents_of limit told;
  spells = Some (spelt_in limit);
}

-- attached sources by their names
abbrev pub Sources : Type 0
Sources = NamedSources Source

-- the rows of a source, where they are told
abbrev pub rows_at : ℕ → Tells → Source → Option (List Value)
rows_at limit told s = told_rows (stored_by (contents_of limit told) s.path s.ty)

-- the type that the file of a source stated when it was attached, which is that of its items
abbrev pub stated_of : Source → Option Ty
stated_of s = cond s.stated (Some (item_ty s.ty)) None

abbrev pub head_of : Source → Head
head_of s = head_as (stated_of s)

abbrev pub attached_of : ℕ → Tells → Source → Attached
attached_of limit told s = record {
  ty = s.ty;
  rows = rows_at limit told s;
  count = s.count;
  kept = Some (record { bytes = s.bytes; head = head_of s });
}

-- the rows that a cursor has not handed are those behind the first ones, which it took
abbrev pub cursor_of : ℕ → Tells → Open → Cursor
cursor_of limit told o = record {
  ask = o.ask;
  ty = item_of (ground_of o.source.ty);
  left = option_map (drop o.taken) (rows_at limit told o.source);
  bound = o.source.count - o.taken;
}

-- what was read of a file
abbrev pub read_as : Seen → ReadSoFar
read_as seen = record { bytes = seen.bytes; ended = seen.ended }

-- Of each file at most `limit` bytes are looked at.
abbrev pub nested_state : ℕ → FilesState → Sources → List (Option Open) → List (Ask × ℕ) → ℕ → ℕ → ℕ → State
nested_state limit files sources cursors asked handed drifts unread = record {
  kind = nested_kind limit files.told;
  attached = λ name. option_map (attached_of limit files.told) (source_named sources name);
  cursors = λ k. option_map (cursor_of limit files.told) (open_at cursors k);
  file = λ k. option_map (λ (o : Open). o.file) (open_at cursors k);
  read = λ n. option_map read_as (seen_in files n);
  asked = asked;
  handed = handed;
  faults = files.faults;
  drifts = drifts;
  unread = unread;
}

-- nothing is attached, no cursor is open, nothing was asked or handed, and no fault is counted but those of the files
abbrev pub fresh_state : ℕ → FilesState → State
fresh_state limit files = record {
  kind = nested_kind limit files.told;
  attached = λ name. None;
  cursors = λ k. None;
  file = λ k. None;
  read = λ n. option_map read_as (seen_in files n);
  asked = [];
  handed = 0;
  faults = files.faults;
  drifts = 0;
  unread = 0;
}
