-- Steps of reading: the next row of a file, and all of them when it is attached. No public contract cites this.
use Rattle.std.specs.Prelude.{◌≡◌, ◌⊎◌, ℕ, ◌≤◌, Bool, true, false, List, length, Option, Some, None, IsSome, Result, Ok, Err}
use Rattle.std.specs.Prelude.{IfOk, IsErrOf, ⊤, is_some, nat_eq}
use Rattle.std.specs.Cmp.Lexicographic.{pointwise}
use Rattle.std.specs.HashMap.{IsUnchanged, Updates}
use Rattle.kl_base.specs.Counts.{Rose}
use Rattle.kl_value.specs.declared.Value.{Value}
use Rattle.kl_type.specs.Has.{has_type}
use Rattle.kl_type.specs.declared.ground.Ty.{Ty}
use Rattle.kl_outside.specs.Files.{FilesState, Holds, IsMissing, OtherFiles, OtherSeen, seen_in}
use Rattle.kl_outcome.specs.Outcome.{Name}
use Rattle.kl_heads.specs.FileReading.{HeadedFile, NextItem, ReadsHead}
use Rattle.kl_exchange.specs.declared.error.FileError.{FileError}
use Rattle.kl_exchange.specs.declared.error.FileError.TheVariants as fault
use Rattle.kl_ask.specs.Driver.{Bad, Long, Deep, Rows, CountsFault}
use Rattle.kl_ask.specs.declared.ask.Drift.{Drift}
use Rattle.kl_ask.specs.declared.ask.DriverError.{DriverError}
use Rattle.kl_ask.specs.declared.ask.DriverError.TheVariants as error
use Rattle.kl_nested.specs.Contents.{item_ty, stored_in}
use Rattle.kl_nested.specs.Nested.{Sources}
use Rattle.kl_heads.specs.Found.{file_text}
use Rattle.kl_heads.specs.Stated.{states_no_other}
use Rattle.kl_nested.specs.declared.rows.Halt.{Halt}
use Rattle.kl_nested.specs.declared.through.Kept.{Kept}
use Rattle.kl_nested.specs.declared.rows.Halt.TheVariants as halt

-- ---- the next row

-- the next item is a row where it has the type
abbrev pub RowOf : Ty → Result (Option Value) FileError → Result (Option Value) Halt → HeadedFile → Type 0
RowOf item (Ok (Some v)) (Ok (Some row)) now = (row ≡ v) × (has_type v item ≡ true)
RowOf item (Ok (Some v)) (Err halt.Misfit) now = has_type v item ≡ false
RowOf item (Ok None) (Ok None) now = now.items.text.finished ≡ true
RowOf item (Err e) (Err (halt.Unread why)) now = why ≡ e
RowOf item found result now = ⊥

pub record NextRow (item : Ty) (result : Result (Option Value) Halt) (old new : HeadedFile) (files files' : FilesState) : Type 0 where
  pub found : Result (Option Value) FileError
  pub next : NextItem found old new files files'
  pub row : RowOf item found result new

-- whether there is a next row
abbrev pub SaysWhether : Result (Option Value) Halt → Result Bool Halt → Type 0
SaysWhether (Ok (Some v)) (Ok some) = some ≡ true
SaysWhether (Ok None) (Ok some) = some ≡ false
SaysWhether (Err why) (Err other) = other ≡ why
SaysWhether row result = ⊥

pub record SkipsRow (item : Ty) (result : Result Bool Halt) (old new : HeadedFile) (files files' : FilesState) : Type 0 where
  pub row : Result (Option Value) Halt
  pub next : NextRow item row old new files files'
  pub says : SaysWhether row result

-- ---- all rows

-- why a source is not attached, where so many bytes of the head and of items stand before what is no row
abbrev pub unreadable : ℕ → ℕ → Halt → DriverError
unreadable limit place halt.Misfit = error.BadSource place
unreadable limit place (halt.Unread (fault.Bad at)) = error.BadSource at
unreadable limit place (halt.Unread (fault.TooDeep at)) = error.TooDeep at
unreadable limit place (halt.Unread fault.TooLong) = error.TooLong limit
unreadable limit place (halt.Unread fault.Read) = error.Failed
unreadable limit place (halt.Unread fault.NoMemory) = error.NoMemory

-- the head that was read states no other type, and the answer is whether there is one
abbrev pub FitsHead : Ty → Option Ty → Result Bool DriverError → Type 0
FitsHead item head (Ok stated) = (stated ≡ is_some head) × (states_no_other item head ≡ true)
FitsHead item head (Err e) = (e ≡ error.BadSource 0) × (states_no_other item head ≡ false)

-- and where none was read, why
abbrev pub SaysHead : ℕ → Ty → Result (Option Ty) FileError → Result Bool DriverError → Type 0
SaysHead limit item (Ok head) result = FitsHead item head result
SaysHead limit item (Err why) (Err e) = e ≡ unreadable limit 0 (halt.Unread why)
SaysHead limit item (Err why) (Ok stated) = ⊥

pub record LooksAtHead (limit : ℕ) (item : Ty) (result : Result Bool DriverError) (old new : HeadedFile) (files files' : FilesState)
    : Type 0 where
  pub found : Result (Option Ty) FileError
  pub reads : ReadsHead found old new files files'
  pub says : SaysHead limit item found result

-- what is kept of a file: whether it has a head, and the number of its bytes and of its rows; or why the source is not attached
abbrev pub Told : ℕ → List ℕ → Ty → Result Kept DriverError → Type 0
Told limit bytes item (Ok kept) = (rows : List Value) × (stored_in limit bytes item ≡ Rows rows) × (kept.count ≡ length rows)
    × (kept.bytes ≡ length bytes) × (kept.stated ≡ is_some (file_text limit bytes).head)
Told limit bytes item (Err (error.BadSource place)) = stored_in limit bytes item ≡ Bad place
Told limit bytes item (Err (error.TooLong most)) = stored_in limit bytes item ≡ Long most
Told limit bytes item (Err (error.TooDeep place)) = stored_in limit bytes item ≡ Deep place
Told limit bytes item (Err error.Failed) = ⊤
Told limit bytes item (Err error.NoMemory) = ⊤
Told limit bytes item (Err (error.Changed d)) = ⊥

-- an open file is read to its end
pub record ReadsThrough (limit file : ℕ) (item : Ty) (result : Result Kept DriverError) (old new : FilesState) : Type 0 where
  pub told : new.told ≡ old.told
  pub others : OtherFiles file old new
  pub is_open : IsSome (new.left file)
  pub others_seen : OtherSeen file old new
  pub later : old.faults ≤ new.faults
  pub counts : CountsFault result old.faults new.faults
  pub failed : IsErrOf result error.Failed → Rose old.faults new.faults
  pub small : IfOk result (λ kept. (kept.bytes ≤ limit) × (kept.count ≤ limit))
  pub no_change : (d : Drift) → IsErrOf result (error.Changed d) → ⊥
  pub known : (bytes : List ℕ) → old.left file ≡ Some (Some bytes) → Told limit bytes item result

-- the file at a path is read from its start to its end, and closed
pub record ReadsFile (limit : ℕ) (path : List ℕ) (item : Ty) (result : Result Kept DriverError) (old new : FilesState) : Type 0 where
  pub told : new.told ≡ old.told
  pub left : (k : ℕ) → new.left k ≡ old.left k
  pub open_seen : (k : ℕ) → IsSome (old.left k) → seen_in new k ≡ seen_in old k
  pub later : old.faults ≤ new.faults
  pub counts : CountsFault result old.faults new.faults
  pub failed : IsErrOf result error.Failed → IsMissing old path ⊎ Rose old.faults new.faults
  pub missing : IsMissing old path → IsErrOf result error.Failed × (new.faults ≡ old.faults)
  pub small : IfOk result (λ kept. (kept.bytes ≤ limit) × (kept.count ≤ limit))
  pub no_change : (d : Drift) → IsErrOf result (error.Changed d) → ⊥
  pub known : (bytes : List ℕ) → Holds old path bytes → Told limit bytes item result

-- what was kept of a file is attached under a name, or nothing is
abbrev pub Adds : Name → List ℕ → Ty → Result Kept DriverError → Result ℕ DriverError → Sources → Sources → Type 0
Adds name path ty (Ok kept) (Ok count) old new =
    (count ≡ kept.count) × Updates (pointwise nat_eq) old new name
    (Some (record { path = path; ty = ty; stated = kept.stated; bytes = kept.bytes; count = kept.count }))
Adds name path ty (Ok kept) (Err e) old new = (e ≡ error.NoMemory) × IsUnchanged old new
Adds name path ty (Err e) (Err d) old new = (d ≡ e) × (new ≡ old)
Adds name path ty (Err e) (Ok count) old new = ⊥

pub record AttachesFile (limit : ℕ) (name : Name) (path : List ℕ) (ty : Ty) (result : Result ℕ DriverError)
    (sources sources' : Sources) (old new : FilesState) : Type 0 where
  pub kept : Result Kept DriverError
  pub reads : ReadsFile limit path (item_ty ty) kept old new
  pub adds : Adds name path ty kept result sources sources'
