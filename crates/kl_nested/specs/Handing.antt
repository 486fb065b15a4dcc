-- Steps of handing rows. No public contract cites this.
use Rattle.std.specs.Prelude.{◌≡◌, ◌≢◌, ◌⊎◌, ℕ, ◌+◌, ◌<◌, ◌≤◌, true, false, List, [], ◌∷◌, ◌++◌, length, drop, set, slice_get, Option}
use Rattle.std.specs.Prelude.{Some, None, IsSome, Result, Ok, Err, IfOk, OnOk, OnErr, ⊤}
use Rattle.std.specs.List.{AllByRecursion}
use Rattle.kl_base.specs.Counts.{Rose}
use Rattle.kl_value.specs.declared.Value.{Value}
use Rattle.kl_type.specs.Ground.{ground_of}
use Rattle.kl_type.specs.Has.{has_type}
use Rattle.kl_type.specs.declared.ground.Ty.{Ty}
use Rattle.kl_outside.specs.Files.{FilesState, OtherFiles, OtherSeen, Seen, seen_in}
use Rattle.kl_exchange.specs.FileReading.{SeesMore}
use Rattle.kl_heads.specs.FileReading.{HeadedFile}
use Rattle.kl_exchange.specs.declared.error.FileError.{FileError}
use Rattle.kl_exchange.specs.declared.error.FileError.TheVariants as fault
use Rattle.kl_outcome.specs.Typed.{Inhabits}
use Rattle.kl_ask.specs.Asks.{item_of}
use Rattle.kl_ask.specs.Driver.{CountsFault, IsAsAttached, IsShown}
use Rattle.kl_ask.specs.declared.ask.Drift.{Drift}
use Rattle.kl_ask.specs.declared.ask.Drift.TheVariants as drift
use Rattle.kl_ask.specs.declared.ask.DriverError.{DriverError}
use Rattle.kl_ask.specs.declared.ask.DriverError.TheVariants as error
use Rattle.kl_nested.specs.Desk.{HasTaken}
use Rattle.kl_nested.specs.Contents.{head_as, spelt_in}
use Rattle.kl_nested.specs.Nested.{attached_of, head_of, read_as, rows_at, stated_of}
use Rattle.kl_nested.specs.declared.parts.Source.{Source}
use Rattle.kl_nested.specs.declared.parts.Open.{Open}
use Rattle.kl_nested.specs.declared.rows.Halt.{Halt}
use Rattle.kl_nested.specs.declared.rows.Halt.TheVariants as halt

-- ---- handing

abbrev pub AllHave : Ty → List Value → Type 0
AllHave t vs = AllByRecursion (λ v. has_type v t ≡ true) vs

-- What is told of a file that is not as it was, where so many bytes were kept of it and so many items were read: of one
-- that has more bytes than are looked at, one byte more than these.
abbrev pub unread_as : ℕ → ℕ → FileError → DriverError
unread_as limit kept (fault.Bad place) = error.Changed (drift.Unread place)
unread_as limit kept (fault.TooDeep place) = error.Changed (drift.Unread place)
unread_as limit kept fault.TooLong = error.Changed (drift.Bytes kept (limit + 1))
unread_as limit kept fault.Read = error.Failed
unread_as limit kept fault.NoMemory = error.NoMemory

abbrev pub changed_as : ℕ → ℕ → ℕ → Halt → DriverError
changed_as limit kept taken halt.Misfit = error.Changed (drift.Misfit taken)
changed_as limit kept taken (halt.Unread why) = unread_as limit kept why

-- What was kept of a source and what was found differ, where so many items were found. What it states is met before any item. Its
-- bytes are more than are looked at, or they end behind all items that were kept.
abbrev pub Differs : ℕ → Source → ℕ → Drift → Type 0
Differs limit s found (drift.Bytes kept size) = (kept ≡ s.bytes) × (size ≢ kept) × ((size ≡ limit + 1) ⊎ (found ≡ s.count + 1))
Differs limit s found (drift.Count kept count) = (kept ≡ s.count) × (count ≡ found) × (count ≢ kept)
Differs limit s found (drift.Header kept stated) = (kept ≡ head_of s) × (stated ≢ kept) × (found ≡ 0)
Differs limit s found (drift.Unread place) = ⊤
Differs limit s found (drift.Misfit item) = (item ≡ found) × (item < s.count)

-- what is told of stands so in what was read of the file, where that is kept
abbrev pub ShowsDrift : ℕ → Source → Option Seen → Drift → Type 0
ShowsDrift limit s seen d = (r : Seen) → seen ≡ Some r
    → IsShown (Some limit) (attached_of limit None s) (read_as r) (spelt_in limit r.bytes) d

-- the whole file was read, where it is kept what was, and it is as it was kept
abbrev pub ShowsAll : ℕ → Source → Option Seen → Type 0
ShowsAll limit s seen = (r : Seen) → seen ≡ Some r → IsAsAttached (attached_of limit None s) (read_as r) (spelt_in limit r.bytes)

-- the cause of a refusal, over a file
abbrev pub Refuses : ℕ → Source → ℕ → ℕ → DriverError → FilesState → FilesState → Type 0
Refuses limit s file found error.Failed old new = Rose old.faults new.faults
Refuses limit s file found error.NoMemory old new = ⊤
Refuses limit s file found (error.Changed d) old new = (old.told ≡ None) × Differs limit s found d
    × ShowsDrift limit s (seen_in new file) d
Refuses limit s file found _ old new = ⊥

-- a reader read its file, and nothing else
pub record ReadsOne (old new : HeadedFile) (files files' : FilesState) : Type 0 where
  pub told : files'.told ≡ files.told
  pub others : OtherFiles old.items.file files files'
  pub is_open : IsSome (files'.left old.items.file)
  pub others_seen : OtherSeen old.items.file files files'
  pub more : SeesMore (seen_in files old.items.file) (seen_in files' old.items.file)
  pub later : files.faults ≤ files'.faults
  pub same_file : new.items.file ≡ old.items.file

-- rows that were appended are the next ones of a source of which so many were taken
pub record AreNext (limit : ℕ) (s : Source) (taken : ℕ) (rows into into' : List Value) (files : FilesState) : Type 0 where
  pub appended : into' ≡ into ++ rows
  pub typed : AllByRecursion (Inhabits (item_of (ground_of s.ty))) rows
  pub next : (all : List Value) → rows_at limit files.told s ≡ Some all → drop taken all ≡ rows ++ drop (taken + length rows) all

-- what was found in the place of the head is what was kept
abbrev pub HasHead : Source → Option Ty → Result (Unit {0}) DriverError → Type 0
HasHead s found (Ok done) = found ≡ stated_of s
HasHead s found (Err (error.Changed d)) = (d ≡ drift.Header (head_of s) (head_as found)) × (head_as found ≢ head_of s)
HasHead s found (Err e) = e ≡ error.NoMemory

-- the head is read over, where it was not yet, and is as it was kept
pub record PassesHead (limit : ℕ) (s : Source) (taken : ℕ) (result : Result (Unit {0}) DriverError) (old new : HeadedFile)
    (files files' : FilesState) : Type 0 where
  pub reads : ReadsOne old new files files'
  pub passed : OnOk result (new.front ≡ false)
  pub unread : OnErr result (taken ≡ 0)
  pub taken_so : OnOk result (HasTaken limit s taken new files')
  pub counts : CountsFault result files.faults files'.faults
  pub cause : (e : DriverError) → result ≡ Err e → Refuses limit s old.items.file 0 e files files'

-- a row is appended, or nothing
abbrev pub Pushes : Value → List Value → List Value → Result (Unit {0}) DriverError → Type 0
Pushes row into into' (Ok done) = into' ≡ into ++ row ∷ []
Pushes row into into' (Err e) = (into' ≡ into) × (e ≡ error.NoMemory)

-- the next row is appended
pub record TakesRow (limit : ℕ) (s : Source) (taken : ℕ) (into into' : List Value) (result : Result (Unit {0}) DriverError)
    (old new : HeadedFile) (files files' : FilesState) : Type 0 where
  pub reads : ReadsOne old new files files'
  pub row : OnOk result ((v : Value) × AreNext limit s taken (v ∷ []) into into' files × HasTaken limit s (taken + 1) new files')
  pub behind : OnOk result (new.front ≡ false)
  pub same : OnErr result (into' ≡ into)
  pub counts : CountsFault result files.faults files'.faults
  pub cause : (e : DriverError) → result ≡ Err e → Refuses limit s old.items.file taken e files files'

-- so many next rows are appended
pub record TakesRows (limit : ℕ) (s : Source) (taken count : ℕ) (into into' : List Value) (result : Result (Unit {0}) DriverError)
    (old new : HeadedFile) (files files' : FilesState) : Type 0 where
  pub reads : ReadsOne old new files files'
  pub rows : List Value
  pub are_next : AreNext limit s taken rows into into' files
  pub all : OnOk result ((length rows ≡ count) × HasTaken limit s (taken + count) new files')
  pub few : OnErr result (length rows < count)
  pub counts : CountsFault result files.faults files'.faults
  pub cause : (e : DriverError) → result ≡ Err e → Refuses limit s old.items.file (taken + length rows) e files files'

-- as many bytes were found as were kept
abbrev pub HasBytes : ℕ → ℕ → Result (Unit {0}) DriverError → Type 0
HasBytes kept found (Ok done) = found ≡ kept
HasBytes kept found (Err e) = (e ≡ error.Changed (drift.Bytes kept found)) × (found ≢ kept)

-- a file of which all rows were read that were kept has ended, and has as many bytes as were kept
pub record MeetsEnd (limit : ℕ) (s : Source) (result : Result (Unit {0}) DriverError) (old new : HeadedFile)
    (files files' : FilesState) : Type 0 where
  pub reads : ReadsOne old new files files'
  pub taken : OnOk result (HasTaken limit s s.count new files')
  pub all : OnOk result (ShowsAll limit s (seen_in files' old.items.file))
  pub counts : CountsFault result files.faults files'.faults
  pub cause : (e : DriverError) → result ≡ Err e → Refuses limit s old.items.file (s.count + 1) e files files'

-- So many next rows of a cursor are appended, as many as were asked for or all that are left, and it stands behind them. Where
-- none is appended the file has ended, and is as it was kept.
pub record HandsNext (limit most : ℕ) (into into' : List Value) (old new : Open) (files files' : FilesState) (count : ℕ) : Type 0 where
  pub rows : List Value
  pub are_next : AreNext limit old.source old.taken rows into into' files
  pub size : length rows ≡ count
  pub few : count ≤ most
  pub all : (count ≡ most) ⊎ (new.taken ≡ old.source.count)
  pub after : new.taken ≡ old.taken + count
  pub within : new.taken ≤ old.source.count
  pub taken : HasTaken limit old.source new.taken new.reader files'
  pub ended : count ≡ 0 → ShowsAll limit old.source (seen_in files' old.reader.items.file)

-- a cursor stops before all rows, at a row that it has not handed, or behind the last of all
abbrev pub StopsBehind : Open → ℕ → Type 0
StopsBehind o found = ((o.taken ≡ 0) × (found ≡ 0)) ⊎ (((o.taken ≤ found) × (found < o.source.count))
    ⊎ ((o.taken ≡ o.source.count) × (found ≡ o.source.count + 1)))

pub record Hands (limit most : ℕ) (into into' : List Value) (result : Result ℕ DriverError) (old new : Open)
    (files files' : FilesState) : Type 0 where
  pub reads : ReadsOne old.reader new.reader files files'
  pub ask : new.ask ≡ old.ask
  pub source : new.source ≡ old.source
  pub file : new.file ≡ old.file
  pub handed : IfOk result (HandsNext limit most into into' old new files files')
  pub same : OnErr result (into' ≡ into)
  pub counts : CountsFault result files.faults files'.faults
  pub cause : (e : DriverError) → result ≡ Err e → (found : ℕ) × StopsBehind old found
      × Refuses limit old.source old.reader.items.file found e files files'

-- the cursor at a place hands rows, and no other
pub record HandsAt (limit cursor most : ℕ) (into into' : List Value) (result : Result ℕ DriverError)
    (cursors cursors' : List (Option Open)) (files files' : FilesState) : Type 0 where
  pub old : Open
  pub new : Open
  pub here : slice_get cursors cursor ≡ Some (Some old)
  pub made : cursors' ≡ set cursors cursor (Some new)
  pub hands : Hands limit most into into' result old new files files'
