-- What a driver means, and what each call does to it.
use Rattle.std.specs.Prelude.{◌≡◌, ◌≢◌, ◌⊎◌, ◌<◌, ◌≤◌, ℕ, ◌+◌, ◌^◌, Bool, true, false, List, [], ◌++◌, length, Contains, Option}
use Rattle.std.specs.Prelude.{Some, None, IsSome, slice_get, ⊤}
use Rattle.std.specs.Prelude.{Result, Ok, Err, IfOk, OnOk, OnErr, IsErrOf}
use Rattle.std.specs.List.{AllByRecursion, IsDistinct}
use Rattle.std.specs.Option.{option_map}
use Rattle.std.specs.List.Sorted.{IsPermutation}
use Rattle.std.specs.Ordering.{is_eq}
use Rattle.kl_base.specs.Counts.{Rose}
use Rattle.kl_value.specs.Order.{compare}
use Rattle.kl_value.specs.declared.Kind.{Kind}
use Rattle.kl_value.specs.declared.Kind.TheVariants as kind
use Rattle.kl_value.specs.declared.Value.{Value}
use Rattle.kl_type.specs.Ground.{Ground, Row, bool, int, str, rec, coll, no_row, row, ground_of}
use Rattle.kl_type.specs.declared.Ty.{Ty}
use Rattle.kl_outcome.specs.Outcome.{Name}
use Rattle.kl_outcome.specs.Typed.{Inhabits}
use Rattle.kl_ask.specs.Asked.{with_ask, raised_by}
use Rattle.kl_ask.specs.Asks.{item_of, kind_of, answers, shown_type, is_allowed, AskFits}
use Rattle.kl_ask.specs.Statements.{RowTypes, SqlFits, sql_type}
use Rattle.kl_sqltext.specs.Meaning.{spj}
use Rattle.kl_sqltext.specs.Reading.{SqlReads}
use Rattle.kl_sqltext.specs.declared.ast.Spj.{Spj}
use Rattle.kl_ask.specs.declared.ask.Abilities.{Abilities}
use Rattle.kl_ask.specs.declared.ask.Ask.{Ask}
use Rattle.kl_ask.specs.declared.ask.Ask.TheVariants as asks
use Rattle.kl_ask.specs.declared.ask.ColTest.{ColTest}
use Rattle.kl_ask.specs.declared.ask.Drift.{Drift}
use Rattle.kl_ask.specs.declared.ask.Drift.TheVariants as drift
use Rattle.kl_ask.specs.declared.ask.DriverError.{DriverError}
use Rattle.kl_ask.specs.declared.ask.Head.{Head}
use Rattle.kl_ask.specs.declared.ask.DriverError.TheVariants as error

-- ---- what a driver means

-- what stands at a locator, read as a type: nothing; unreadable from a place on; past a length; nested too deep at a
-- place; or rows
pub data Stored : Type 0 where
  Missing : Stored
  Bad : ℕ → Stored
  Long : ℕ → Stored
  Deep : ℕ → Stored
  Rows : List Value → Stored

-- What stands behind the items that bytes spell: nothing that counts; what is no text from a place on, or nests too deep there;
-- or more bytes than are looked at.
pub data Behind : Type 0 where
  Nothing : Behind
  StopsAt : ℕ → Behind
  Beyond : Behind

-- What bytes state of the type of their items, before all of them, where the source ends behind them or may go on: a type, or that
-- they state none; it is not known yet of too few bytes, and never of what begins to state a type and states none. And the items that
-- they spell one behind the other, and what stands behind them.
pub record Spelt : Type 0 where
  pub head : Bool → Option Head
  pub items : List Value
  pub behind : Behind

-- What a driver is and does not change. `most` is how many bytes of a source are looked at, where that is bounded; `stored` is
-- None where contents are not told; and `spells` says what bytes spell, where cursors read their sources anew, and is None
-- where the rows are held since they were attached.
pub record DriverKind : Type 0 where
  pub name : List ℕ
  pub abilities : Abilities
  pub suits : Ty → Bool
  pub most : Option ℕ
  pub stored : Option (List ℕ → Ty → Stored)
  pub spells : Option (List ℕ → Spelt)

-- what is kept of a source that cursors read anew: the number of its bytes, and what it states of its type
pub record Kept : Type 0 where
  pub bytes : ℕ
  pub head : Head

-- an attached source: the type of the whole collection; its rows, where contents are told; how many rows a whole scan
-- hands; and what it was when it was attached, where the driver keeps that
pub record Source : Type 0 where
  pub ty : Ty
  pub rows : Option (List Value)
  pub count : ℕ
  pub kept : Option Kept

-- an open cursor: its ask, the type of its rows, the rows that are left where contents are told, and how many rows it may
-- still hand
pub record Cursor : Type 0 where
  pub ask : Ask
  pub ty : Ground
  pub left : Option (List Value)
  pub bound : ℕ

-- What a cursor has read of its source: the bytes from the first on, and whether the source was found to end behind them.
pub record ReadSoFar : Type 0 where
  pub bytes : List ℕ
  pub ended : Bool

-- `file` is the number under which an open cursor reads its source anew, where it does; `read` is what was read under each such
-- number since it was taken last, where that is kept, which no driver can see
pub record State : Type 0 where
  pub kind : DriverKind
  pub attached : Name → Option Source
  pub cursors : ℕ → Option Cursor
  pub file : ℕ → Option ℕ
  pub read : ℕ → Option ReadSoFar
  pub asked : List (Ask × ℕ)
  pub handed : ℕ
  pub faults : ℕ
  pub drifts : ℕ
  pub unread : ℕ

abbrev pub IsTold : State → Type 0
IsTold s = IsSome s.kind.stored

-- ---- what every call keeps

-- What calls come to, one or more of them: no count falls. Which counts a call may raise is said of each call below.
pub record KeepsState (old new : State) : Type 0 where
  pub kind : new.kind ≡ old.kind
  pub handed : old.handed ≤ new.handed
  pub faults : old.faults ≤ new.faults
  pub drifts : old.drifts ≤ new.drifts
  pub no_drift : IsTold old → new.drifts ≡ old.drifts
  pub unread : old.unread ≤ new.unread

abbrev pub OtherCursors : ℕ → State → State → Type 0
OtherCursors cursor old new = (k : ℕ) → k ≢ cursor → new.cursors k ≡ old.cursors k

abbrev pub OtherSources : Name → State → State → Type 0
OtherSources source old new = (name : Name) → name ≢ source → new.attached name ≡ old.attached name

-- The count of faults rises with the answer `Failed` alone.
abbrev pub CountsFault : {T : Type 0} → Result T DriverError → ℕ → ℕ → Type 0
CountsFault (Err error.Failed) before now = before ≤ now
CountsFault _ before now = now ≡ before

-- ---- what was read

-- what is read under the number of a cursor, where it reads
abbrev pub read_under : Option ℕ → State → Option ReadSoFar
read_under None s = None
read_under (Some n) s = s.read n

-- a cursor reads as before, and has read as much
pub record SameReading (cursor : ℕ) (old new : State) : Type 0 where
  pub file : new.file cursor ≡ old.file cursor
  pub read : read_under (old.file cursor) new ≡ read_under (old.file cursor) old

-- every other open cursor
abbrev pub OtherReadings : ℕ → State → State → Type 0
OtherReadings cursor old new = (k : ℕ) → k ≢ cursor → IsSome (old.cursors k) → SameReading k old new

-- more was read, behind what was read before
abbrev pub ReadsOn : Option ReadSoFar → Option ReadSoFar → Type 0
ReadsOn None after = after ≡ None
ReadsOn (Some before) (Some after) = (more : List ℕ) × (after.bytes ≡ before.bytes ++ more)
ReadsOn (Some before) None = ⊥

-- the bytes end where the source ends, and are text of so many items
pub record IsWholeText (read : ReadSoFar) (spelt : Spelt) (count : ℕ) : Type 0 where
  pub ended : read.ended ≡ true
  pub behind : spelt.behind ≡ Nothing
  pub size : length spelt.items ≡ count

-- ---- `suits`

abbrev pub IsBase : Ground → Type 0
IsBase bool = ⊤
IsBase int = ⊤
IsBase str = ⊤
IsBase _ = ⊥

abbrev pub AllBase : Row → Type 0
AllBase no_row = ⊤
AllBase (row l t r) = IsBase t × AllBase r

-- records with one or more fields, all of base types
abbrev pub IsFlat : Ground → Type 0
IsFlat (rec no_row) = ⊥
IsFlat (rec (row l t r)) = IsBase t × AllBase r
IsFlat _ = ⊥

abbrev pub IsColl : Ground → Type 0
IsColl t = (k : Kind) × (u : Ground) × (t ≡ coll k u)

-- A driver suits only collections; one that selects, projects or joins only those of flat records; one that joins no
-- lists.
pub record Suits (a : Abilities) (t : Ground) : Type 0 where
  pub collection : IsColl t
  pub select : a.select ≡ true → IsFlat (item_of t)
  pub project : a.project ≡ true → IsFlat (item_of t)
  pub join : a.join ≡ true → IsFlat (item_of t)
  pub no_list : a.join ≡ true → kind_of t ≢ kind.List

-- ---- `attach`

abbrev pub same_value : Value → Value → Bool
same_value a b = is_eq (compare a b)

abbrev pub stored_by : Option (List ℕ → Ty → Stored) → List ℕ → Ty → Option Stored
stored_by None locator ty = None
stored_by (Some stored) locator ty = Some (stored locator ty)

-- what stands at a locator, where contents are told
abbrev pub stored_at : State → List ℕ → Ty → Option Stored
stored_at s locator ty = stored_by s.kind.stored locator ty

abbrev pub rows_in : Stored → Option (List Value)
rows_in (Rows rows) = Some rows
rows_in _ = None

abbrev pub told_rows : Option Stored → Option (List Value)
told_rows (Some stored) = rows_in stored
told_rows None = None

-- a source is unreadable: contents that are told say so, or else the count of unreadable sources rose
abbrev pub Unreadable : Stored → Option Stored → State → State → Type 0
Unreadable why stored old new = (stored ≡ Some why) ⊎ ((IsTold old → ⊥) × Rose old.unread new.unread)

-- only an answer that the source is unreadable raises the count of unreadable sources
abbrev pub CountsUnread : Result ℕ DriverError → ℕ → ℕ → Type 0
CountsUnread (Err (error.BadSource place)) before now = before ≤ now
CountsUnread (Err (error.TooLong most)) before now = before ≤ now
CountsUnread (Err (error.TooDeep place)) before now = before ≤ now
CountsUnread _ before now = now ≡ before

pub record Attaches (source : Name) (locator : List ℕ) (ty : Ty) (result : Result ℕ DriverError) (old new : State) : Type 0 where
  pub keeps : KeepsState old new
  pub cursors : new.cursors ≡ old.cursors
  pub reading : (k : ℕ) → IsSome (old.cursors k) → SameReading k old new
  pub asked : new.asked ≡ old.asked
  pub handed : new.handed ≡ old.handed
  -- of the other counts, that of faults rises with `Failed` alone, and that of unreadable sources with a refusal as unreadable
  pub faults : CountsFault result old.faults new.faults
  pub drifts : new.drifts ≡ old.drifts
  pub unread : CountsUnread result old.unread new.unread
  pub others : OtherSources source old new
  -- the answer is the number of rows that a whole scan hands
  pub attached : IfOk result (λ count. (kept : Option Kept)
      × (new.attached source ≡ Some (record { ty = ty; rows = told_rows (stored_at old locator ty); count = count; kept = kept })))
  -- where cursors read their sources anew, what this one is is kept
  pub kept : OnOk result (IsSome old.kind.spells → (s : Source) → new.attached source ≡ Some s → IsSome s.kept)
  pub count : IfOk result (λ count. (rows : List Value) → stored_at old locator ty ≡ Some (Rows rows) → count ≡ length rows)
  -- a driver with `unique` repeats no row of a set
  pub unique : old.kind.abilities.unique ≡ true → kind_of (ground_of ty) ≡ kind.Set
      → OnOk result ((rows : List Value) → stored_at old locator ty ≡ Some (Rows rows) → IsDistinct same_value rows)
  pub typed : OnOk result ((rows : List Value) → stored_at old locator ty ≡ Some (Rows rows)
      → AllByRecursion (Inhabits (item_of (ground_of ty))) rows)
  pub refused : OnErr result (new.attached ≡ old.attached)
  -- what contents that are told say is not attached
  pub missing : stored_at old locator ty ≡ Some Missing → OnOk result ⊥ × (new.faults ≡ old.faults) × (new.unread ≡ old.unread)
  pub bad : (place : ℕ) → stored_at old locator ty ≡ Some (Bad place) → OnOk result ⊥
  pub long : (most : ℕ) → stored_at old locator ty ≡ Some (Long most) → OnOk result ⊥
  pub deep : (place : ℕ) → stored_at old locator ty ≡ Some (Deep place) → OnOk result ⊥
  -- the cause of each refusal
  pub failed : IsErrOf result error.Failed → (stored_at old locator ty ≡ Some Missing) ⊎ Rose old.faults new.faults
  pub bad_source : (place : ℕ) → IsErrOf result (error.BadSource place) → Unreadable (Bad place) (stored_at old locator ty) old new
  pub too_long : (most : ℕ) → IsErrOf result (error.TooLong most) → Unreadable (Long most) (stored_at old locator ty) old new
  pub too_deep : (place : ℕ) → IsErrOf result (error.TooDeep place) → Unreadable (Deep place) (stored_at old locator ty) old new
  pub no_change : (d : Drift) → IsErrOf result (error.Changed d) → ⊥

-- ---- `start`

abbrev pub row_type : Option Source → Option Ground
row_type (Some a) = Some (item_of (ground_of a.ty))
row_type None = None

-- the types of the rows of the attached sources, by their names
abbrev pub row_types : State → RowTypes
row_types s l = row_type (s.attached l)

-- An ask of rows may be started where its source is attached, the driver is able to answer it, and its columns and tests
-- fit the type. One of SQL may be where the driver joins, and the text is a statement that fits the attached sources.
abbrev pub IsAnswerable : State → Ask → Type 0
IsAnswerable s (asks.Rows source keep tests) =
    (a : Source) × (s.attached source ≡ Some a)
    × (is_allowed s.kind.abilities (ground_of a.ty) (asks.Rows source keep tests) ≡ true) × AskFits (ground_of a.ty) keep tests
IsAnswerable s (asks.Sql text) = (q : Spj) × SqlReads text q × (s.kind.abilities.join ≡ true) × SqlFits (row_types s) q

pub record CanStart (s : State) (ask : Ask) : Type 0 where
  pub answerable : IsAnswerable s ask

-- the same rows, of a list in the same order
abbrev pub InOrder : Kind → List Value → List Value → Type 0
InOrder kind.List rows shown = shown ≡ rows
InOrder _ rows shown = IsPermutation rows shown

-- what a new cursor has left, where contents are told
abbrev pub Shows : Kind → List Name → List ColTest → Option (List Value) → Option (List Value) → Type 0
Shows k keep tests (Some rows) left = (shown : List Value) × (left ≡ Some shown) × InOrder k (answers rows keep tests) shown
Shows k keep tests None left = left ≡ None

-- A cursor that has handed nothing yet, over an attached source: without tests it may hand each row of the source, and
-- with tests no more than these; where contents are told, exactly those that the ask answers.
pub record IsFresh (keep : List Name) (tests : List ColTest) (source : Source) (cursor : Cursor) : Type 0 where
  pub ty : cursor.ty ≡ shown_type keep (item_of (ground_of source.ty))
  pub left : Shows (kind_of (ground_of source.ty)) keep tests source.rows cursor.left
  pub most : cursor.bound ≤ source.count
  pub whole : tests ≡ [] → cursor.bound ≡ source.count
  pub told : (shown : List Value) → cursor.left ≡ Some shown → cursor.bound ≡ length shown
  pub bound : cursor.bound ≤ 2 ^ 64

-- what is told of the rows of these tables is this
abbrev pub AreRows : State → (Name → List Value) → List Name → Type 0
AreRows s rows tables = AllByRecursion (λ l. (a : Source) × (s.attached l ≡ Some a) × (a.rows ≡ Some (rows l))) tables

-- A cursor over a statement that has handed nothing yet: where contents are told, it may hand exactly the rows that the
-- statement means, in some order.
pub record IsJoined (q : Spj) (s : State) (cursor : Cursor) : Type 0 where
  pub ty : cursor.ty ≡ sql_type (row_types s) q
  pub left : (rows : Name → List Value) → AreRows s rows q.tables → (shown : List Value) × (cursor.left ≡ Some shown)
      × IsPermutation (spj rows q) shown
  pub untold : (IsTold s → ⊥) → cursor.left ≡ None
  pub told : (shown : List Value) → cursor.left ≡ Some shown → cursor.bound ≡ length shown
  pub bound : cursor.bound ≤ (2 ^ 64) ^ length q.tables

abbrev pub OpensAt : Ask → State → Cursor → Type 0
OpensAt (asks.Rows source keep tests) old cursor = (a : Source) → old.attached source ≡ Some a → IsFresh keep tests a cursor
OpensAt (asks.Sql text) old cursor = (q : Spj) → SqlReads text q → IsJoined q old cursor

pub record OpensCursor (ask : Ask) (cursor : ℕ) (old new : State) : Type 0 where
  pub free : old.cursors cursor ≡ None
  pub opened : Cursor
  pub now : new.cursors cursor ≡ Some opened
  pub ask_kept : opened.ask ≡ ask
  pub fresh : OpensAt ask old opened
  pub others : OtherCursors cursor old new
  -- where cursors read their sources anew, it has one to read, of which it has read nothing yet
  pub anew : IsSome old.kind.spells → IsSome (new.file cursor)
  pub unread : (r : ReadSoFar) → read_under (new.file cursor) new ≡ Some r → r.bytes ≡ []
  pub asked : new.asked ≡ with_ask ask old.asked

pub record Starts (ask : Ask) (result : Result ℕ DriverError) (old new : State) : Type 0 where
  pub keeps : KeepsState old new
  pub attached : new.attached ≡ old.attached
  pub reading : (k : ℕ) → IsSome (old.cursors k) → SameReading k old new
  pub handed : new.handed ≡ old.handed
  -- of the other counts, that of faults alone rises, and with `Failed` alone
  pub faults : CountsFault result old.faults new.faults
  pub drifts : new.drifts ≡ old.drifts
  pub unread : new.unread ≡ old.unread
  pub opens : IfOk result (λ cursor. OpensCursor ask cursor old new)
  pub refused : OnErr result ((new.cursors ≡ old.cursors) × (new.asked ≡ old.asked))
  pub failed : IsErrOf result error.Failed → Rose old.faults new.faults
  pub no_other : OnErr result (IsErrOf result error.Failed ⊎ IsErrOf result error.NoMemory)

-- ---- `pull`

-- a cursor handed these rows: as many as were asked for, or else all that were left
pub record Hands (limit : ℕ) (rows : List Value) (old new : Cursor) : Type 0 where
  pub ask : new.ask ≡ old.ask
  pub ty : new.ty ≡ old.ty
  pub some : 0 < length rows
  pub most : length rows ≤ limit
  pub typed : AllByRecursion (Inhabits old.ty) rows
  pub bound : new.bound + length rows ≡ old.bound
  pub left : (all : List Value) → old.left ≡ Some all
      → (rest : List Value) × (all ≡ rows ++ rest) × (new.left ≡ Some rest) × ((length rows ≡ limit) ⊎ (rest ≡ []))
  pub untold : old.left ≡ None → new.left ≡ None

-- contents that are told say that no row is left
abbrev pub IsSpent : Cursor → Type 0
IsSpent c = (all : List Value) → c.left ≡ Some all → all ≡ []

abbrev pub HasTests : Ask → Type 0
HasTests (asks.Rows source keep tests) = tests ≢ []
HasTests (asks.Sql text) = (q : Spj) × SqlReads text q × (q.tests ≢ [])

-- a cursor that has no row left from now on
abbrev pub emptied : Cursor → Cursor
emptied c = record { ask = c.ask; ty = c.ty; left = c.left; bound = 0 }

-- the attached source that an ask of rows names
abbrev pub source_of : State → Ask → Option Source
source_of s (asks.Rows source keep tests) = s.attached source
source_of s (asks.Sql text) = None

-- What an open cursor has read after a call, and what that spells.
pub record ReadsAnew (cursor : ℕ) (old new : State) : Type 0 where
  pub read : ReadSoFar
  pub spells : List ℕ → Spelt
  pub is_read : read_under (old.file cursor) new ≡ Some read
  pub kind_spells : old.kind.spells ≡ Some spells

abbrev pub spelt : {cursor : ℕ} {old new : State} → ReadsAnew cursor old new → Spelt
spelt r = r.spells r.read.bytes

-- what was read states of its type what was kept of the source
abbrev pub StatesAsKept : Source → ReadSoFar → Spelt → Type 0
StatesAsKept s read spelt = (kept : Kept) → s.kept ≡ Some kept → spelt.head read.ended ≡ Some kept.head

pub record PullsMore (cursor most : ℕ) (into into' : List Value) (c : Cursor) (old new : State) : Type 0 where
  pub rows : List Value
  pub then : Cursor
  pub appended : into' ≡ into ++ rows
  pub now : new.cursors cursor ≡ Some then
  pub hands : Hands most rows c then
  pub handed : new.handed ≡ raised_by (length rows) old.handed
  -- where a cursor reads its source anew, rows come of none that states another type than when it was attached
  pub stated : (r : ReadsAnew cursor old new) (s : Source) → source_of old c.ask ≡ Some s → StatesAsKept s r.read (spelt r)

-- the whole source was read, and it has as many bytes and as many rows, and states the same, as when it was attached
pub record IsAsAttached (s : Source) (read : ReadSoFar) (spelt : Spelt) : Type 0 where
  pub all : IsWholeText read spelt s.count
  pub size : (kept : Kept) → s.kept ≡ Some kept → length read.bytes ≡ kept.bytes
  pub head : StatesAsKept s read spelt

pub record PullsNone (cursor : ℕ) (into into' : List Value) (c : Cursor) (old new : State) : Type 0 where
  pub same : into' ≡ into
  pub spent : IsSpent c
  -- where contents are not told, an ask with tests may have no row left though more were possible
  pub over : (c.bound ≡ 0) ⊎ ((IsTold old → ⊥) × HasTests c.ask)
  pub now : new.cursors cursor ≡ Some (emptied c)
  pub handed : new.handed ≡ old.handed
  -- where a cursor reads its source anew, that is as it was when it was attached
  pub unchanged : (r : ReadsAnew cursor old new) (s : Source) → source_of old c.ask ≡ Some s → IsAsAttached s r.read (spelt r)

-- a source is not what it was when it was attached: it has other bytes than were kept, or another number of rows, or states
-- another type or none, or what stands at a place or an item no longer reads
abbrev pub HasDrifted : Source → Drift → Type 0
HasDrifted s (drift.Bytes kept found) = (option_map (λ (k : Kept). k.bytes) s.kept ≡ Some kept) × (found ≢ kept)
HasDrifted s (drift.Header kept found) = (option_map (λ (k : Kept). k.head) s.kept ≡ Some kept) × (found ≢ kept)
HasDrifted s (drift.Count kept found) = (s.count ≡ kept) × (found ≢ kept)
HasDrifted s (drift.Unread place) = ⊤
HasDrifted s (drift.Misfit item) = ⊤

-- A row of this number, counted from 0, is one of the source; and none from it on was handed, where the ask has no tests, which
-- may leave rows out.
pub record IsAhead (s : Source) (c : Cursor) (number : ℕ) : Type 0 where
  pub within : number < s.count
  pub ahead : (HasTests c.ask → ⊥) → s.count ≤ number + c.bound

-- one row more was met than the source had, behind its last one
pub record IsPastEnd (c : Cursor) (kept found : ℕ) : Type 0 where
  pub over : (HasTests c.ask → ⊥) → c.bound ≡ 0
  pub next : found ≡ kept + 1

-- More bytes were met than are looked at, and one more than these is told; or the number of bytes was found behind the last row.
abbrev pub IsSizeMet : Option ℕ → Cursor → ℕ → Type 0
IsSizeMet most c found = ((n : ℕ) × (most ≡ Some n) × (found ≡ n + 1)) ⊎ ((HasTests c.ask → ⊥) → c.bound ≡ 0)

-- What is told of was met ahead of what the cursor handed: a number of bytes; what the source states, before any row; a row that
-- lacks the type, or the first that is not there, or one behind the last.
abbrev pub IsMetAhead : Option ℕ → Source → Cursor → Drift → Type 0
IsMetAhead most s c (drift.Bytes kept found) = IsSizeMet most c found
IsMetAhead most s c (drift.Count kept found) = IsAhead s c found ⊎ IsPastEnd c kept found
IsMetAhead most s c (drift.Header kept found) = (HasTests c.ask → ⊥) → c.bound ≡ s.count
IsMetAhead most s c (drift.Unread place) = ⊤
IsMetAhead most s c (drift.Misfit item) = IsAhead s c item

-- What is told of stands so in what the cursor read: all bytes of the source, or one more than are looked at; all rows of it, or
-- one more than it had; what it states of its type; the place where the bytes stop being text, or where they nest too deep, which is
-- behind them only where the source ends; a row that lacks the type.
abbrev pub IsShown : Option ℕ → Source → ReadSoFar → Spelt → Drift → Type 0
IsShown most s read spelt (drift.Bytes kept found) = (length read.bytes ≡ found)
    × (((n : ℕ) × (most ≡ Some n) × (found ≡ n + 1)) ⊎ IsWholeText read spelt s.count)
IsShown most s read spelt (drift.Count kept found) = IsWholeText read spelt found ⊎ ((kept < found) × (found ≤ length spelt.items))
IsShown most s read spelt (drift.Header kept found) = spelt.head read.ended ≡ Some found
IsShown most s read spelt (drift.Unread place) = (spelt.behind ≡ StopsAt place) × ((place < length read.bytes) ⊎ (read.ended ≡ true))
IsShown most s read spelt (drift.Misfit item) = (v : Value) × (slice_get spelt.items item ≡ Some v)
    × (Inhabits (item_of (ground_of s.ty)) v → ⊥)

-- an ask is for this statement
abbrev pub IsAskedSql : Ask → Spj → Type 0
IsAskedSql (asks.Rows source keep tests) q = ⊥
IsAskedSql (asks.Sql text) q = SqlReads text q

-- one of the tables of a statement is not what it was
pub record HasDriftedTable (s : State) (q : Spj) (d : Drift) : Type 0 where
  pub name : Name
  pub source : Source
  pub named : Contains q.tables name
  pub is_attached : s.attached name ≡ Some source
  pub drifted : HasDrifted source d

-- the cause of a refusal
abbrev pub Cause : DriverError → State → State → Type 0
Cause error.Failed old new = Rose old.faults new.faults
Cause (error.Changed d) old new = (IsTold old → ⊥) × Rose old.drifts new.drifts
Cause error.NoMemory old new = ⊤
Cause _ old new = ⊥

pub record PullRefused (cursor : ℕ) (e : DriverError) (into into' : List Value) (c : Cursor) (old new : State) : Type 0 where
  pub same : into' ≡ into
  pub closed : new.cursors cursor ≡ None
  pub handed : new.handed ≡ old.handed
  pub cause : Cause e old new
  pub drifted : (d : Drift) → e ≡ error.Changed d → (s : Source) → source_of old c.ask ≡ Some s → HasDrifted s d
  pub ahead : (d : Drift) → e ≡ error.Changed d → (s : Source) → source_of old c.ask ≡ Some s → IsMetAhead old.kind.most s c d
  pub shown : (d : Drift) → e ≡ error.Changed d → (r : ReadsAnew cursor old new) (s : Source) → source_of old c.ask ≡ Some s
      → IsShown old.kind.most s r.read (spelt r) d
  pub joined_drifted : (d : Drift) → e ≡ error.Changed d → (q : Spj) → IsAskedSql c.ask q → HasDriftedTable old q d

abbrev pub PullResult : ℕ → ℕ → List Value → List Value → Cursor → Result Bool DriverError → State → State → Type 0
PullResult cursor most into into' c (Ok true) old new = PullsMore cursor most into into' c old new
PullResult cursor most into into' c (Ok false) old new = PullsNone cursor into into' c old new
PullResult cursor most into into' c (Err e) old new = PullRefused cursor e into into' c old new

-- only an answer that the source has changed raises the count of drifts
abbrev pub CountsDrift : Result Bool DriverError → ℕ → ℕ → Type 0
CountsDrift (Err (error.Changed d)) before now = before ≤ now
CountsDrift _ before now = now ≡ before

pub record Pulls (cursor most : ℕ) (into into' : List Value) (result : Result Bool DriverError) (old new : State) : Type 0 where
  pub keeps : KeepsState old new
  pub attached : new.attached ≡ old.attached
  pub asked : new.asked ≡ old.asked
  -- of the other counts, that of faults rises with `Failed` alone, and that of drifts with a refusal as changed
  pub faults : CountsFault result old.faults new.faults
  pub drifts : CountsDrift result old.drifts new.drifts
  pub unread : new.unread ≡ old.unread
  pub others : OtherCursors cursor old new
  pub reads : ReadsOn (read_under (old.file cursor) old) (read_under (old.file cursor) new)
  pub same_file : IsSome (new.cursors cursor) → new.file cursor ≡ old.file cursor
  pub others_reading : OtherReadings cursor old new
  pub answer : (c : Cursor) → old.cursors cursor ≡ Some c → PullResult cursor most into into' c result old new

-- ---- `finish`

pub record Finishes (cursor : ℕ) (old new : State) : Type 0 where
  pub keeps : KeepsState old new
  pub attached : new.attached ≡ old.attached
  pub asked : new.asked ≡ old.asked
  pub handed : new.handed ≡ old.handed
  pub faults : new.faults ≡ old.faults
  pub drifts : new.drifts ≡ old.drifts
  pub unread : new.unread ≡ old.unread
  pub closed : new.cursors cursor ≡ None
  pub others : OtherCursors cursor old new
  pub others_reading : OtherReadings cursor old new
