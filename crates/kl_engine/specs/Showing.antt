-- What the private functions of `show` answer. No public contract cites this.
use Rattle.std.specs.Prelude.{◌≡◌, ◌≢◌, ◌⊎◌, ℕ, ◌≤◌, Bool, true, false, List, [], Option, Some, Result, Ok, Err, IsOk, IsSome}
use Rattle.kl_exchange.specs.Printing.{as_stop}
use Rattle.kl_exchange.specs.declared.error.FileError.{FileError}
use Rattle.kl_exchange.specs.declared.error.FileError.TheVariants as error
use Rattle.kl_exchange.specs.declared.error.PrintError.{PrintError}
use Rattle.kl_exchange.specs.declared.error.PrintError.TheVariants as print
use Rattle.kl_exchange.specs.declared.error.ReadError.{ReadError}
use Rattle.kl_exchange.specs.declared.error.ReadError.TheVariants as read
use Rattle.kl_outside.specs.Counts.{Rose}
use Rattle.std.specs.Io.KnownBytes.{append_known}
use Rattle.kl_heads.specs.FileReading.{HeadedFile, HasRead, limit_of}
use Rattle.kl_heads.specs.Found.{FileText, file_text}
use Rattle.kl_exchange.specs.FileItems.{most_read}
use Rattle.kl_outside.specs.Files.{OtherFiles, IsMissing}
use Rattle.kl_outside.specs.Sinks.{SinkState, WritesWhole, TookPart}
use Rattle.kl_outside.specs.declared.stop.Stop.{Stop}
use Rattle.kl_outside.specs.declared.stop.Stop.TheVariants as stop
use Rattle.kl_engine.specs.Answering.{EndsAtType, IsDetermined, IsOneOf, HasFault}
use Rattle.kl_type.specs.Reading.{ReadsType}
use Rattle.kl_type.specs.Written.{type_text}
use Rattle.kl_type.specs.declared.Ty.{Ty}
use Rattle.kl_value.specs.declared.Value.{Value}
use Rattle.kl_engine.specs.Commands.{Show, Upgrade}
use Rattle.kl_engine.specs.declared.show.Form.{Form}
use Rattle.kl_engine.specs.declared.show.Form.TheVariants as form
use Rattle.kl_engine.specs.Faults.{Ending}
use Rattle.kl_engine.specs.Outside.{Outside}
use Rattle.kl_engine.specs.Verdict.{Verdict, IsFile, IsShowing, IsUpgrading, item_line, listed, value_line}
use Rattle.kl_engine.specs.declared.fault.Fault.{Fault}
use Rattle.kl_engine.specs.declared.fault.Fault.TheVariants as fault

abbrev pub open_fault : Stop → Fault
open_fault stop.Failed = fault.Read
open_fault stop.NoMemory = fault.NoMemory

abbrev pub stop_fault : Stop → Fault
stop_fault stop.Failed = fault.Write
stop_fault stop.NoMemory = fault.NoMemory

abbrev pub read_fault : ReadError → Fault
read_fault (read.Bad place) = fault.BadFile place
read_fault (read.TooDeep place) = fault.ItemNesting
read_fault read.NoMemory = fault.NoMemory

abbrev pub fetch_fault : FileError → Fault
fetch_fault (error.Bad place) = fault.BadFile place
fetch_fault (error.TooDeep place) = fault.ItemNesting
fetch_fault error.TooLong = fault.FileBytes
fetch_fault error.Read = fault.Read
fetch_fault error.NoMemory = fault.NoMemory

abbrev pub write_fault : PrintError → Fault
write_fault print.Failed = fault.Write
write_fault print.NoMemory = fault.NoMemory

-- A page is written where it has any line.
pub record Flushes {T : Type 0} (begun : Bool) (result : Result T Stop) (held after : List ℕ) (old new : SinkState) : Type 0 where
  pub writes : begun ≡ true → WritesWhole held result old new × (after ≡ [])
  pub idle : begun ≡ false → IsOk result × (after ≡ held) × (new ≡ old)

-- The end of a verdict on a file, or a fault of the outside with its cause, or want of memory, came first. What was printed
-- is the verdict's page, or a front of it.
pub record FollowsFile (v : Verdict) (end : Ending) (old new : Outside) : Type 0 where
  pub ends : (end ≡ v.ending)
      ⊎ ((end ≡ Some fault.Read) × Rose old.files.faults new.files.faults)
      ⊎ ((end ≡ Some fault.Write) × Rose old.out.faults new.out.faults × (v.page ≢ []))
      ⊎ (end ≡ Some fault.NoMemory)
  pub whole : end ≡ v.ending → new.out.taken ≡ append_known old.out.taken v.page
  pub part : TookPart v.page old.out new.out

-- an item, listed so
abbrev pub line_of : Form → Value → List ℕ
line_of form.Values v = value_line v
line_of form.Items v = item_line v

-- a fault comes behind what stands on the page, unless the sink refuses that
abbrev pub stopped : Fault → Result (Unit {0}) PrintError → Result (Unit {0}) Fault
stopped f (Ok done) = Err f
stopped f (Err e) = Err (write_fault e)

abbrev pub StopsAt : Fault → Bool → Result (Unit {0}) Fault → List ℕ → List ℕ → SinkState → SinkState → Type 0
StopsAt f begun result held after old new = (flushed : Result (Unit {0}) PrintError)
    × Flushes begun (as_stop flushed) held after old new × (result ≡ stopped f flushed)

-- the text is that of the type
abbrev pub IsTypeOf : List ℕ → Ty → Type 0
IsTypeOf text t = text ≡ type_text t

-- the file at a path is shown
pub record DoesShow (path : List ℕ) (end : Ending) (old new : Outside) : Type 0 where
  pub follows : (told : _) → old.files.told ≡ Some told → (v : Verdict) → IsFile IsShowing (told path) v → FollowsFile v end old new
  pub meant : (told : _) → old.files.told ≡ Some told → IsDetermined end → (v : Verdict) × IsFile IsShowing (told path) v × (v.ending ≡ end)
  pub read : end ≡ Some fault.Read → IsMissing old.files path ⊎ Rose old.files.faults new.files.faults
  pub write : end ≡ Some fault.Write → Rose old.out.faults new.out.faults
  pub no_other : IsOneOf (HasFault (Show path)) end
  pub unfailed : (end ≡ Some fault.Read → ⊥) → new.files.faults ≡ old.files.faults
  pub left : new.files.left ≡ old.files.left
  pub told : new.files.told ≡ old.files.told

-- the file at a path is upgraded to the type of this word
pub record DoesUpgrade (path word : List ℕ) (end : Ending) (old new : Outside) : Type 0 where
  pub follows : (told : _) → old.files.told ≡ Some told → (v : Verdict) → IsUpgrading word (told path) v → FollowsFile v end old new
  pub meant : (told : _) → old.files.told ≡ Some told → IsDetermined end → (v : Verdict) × IsUpgrading word (told path) v × (v.ending ≡ end)
  pub read : end ≡ Some fault.Read
      → (IsMissing old.files path × ((t : Ty) × ReadsType word t)) ⊎ Rose old.files.faults new.files.faults
  pub write : end ≡ Some fault.Write → Rose old.out.faults new.out.faults
  pub no_other : IsOneOf (HasFault (Upgrade path word)) end
  pub silent : EndsAtType word end → new.out ≡ old.out
  pub unfailed : (end ≡ Some fault.Read → ⊥) → new.files.faults ≡ old.files.faults
  pub left : new.files.left ≡ old.files.left
  pub told : new.files.told ≡ old.files.told

-- an open file is read on, and nothing else
pub record ReadsOn (file : ℕ) (end : Ending) (old new : Outside) : Type 0 where
  pub told : new.files.told ≡ old.files.told
  pub others : OtherFiles file old.files new.files
  pub is_open : IsSome (new.files.left file)
  pub later : old.files.faults ≤ new.files.faults
  pub read : end ≡ Some fault.Read → Rose old.files.faults new.files.faults
  pub write : end ≡ Some fault.Write → Rose old.out.faults new.out.faults
  pub no_other : IsOneOf (HasFault (Show [])) end
  pub unfailed : (end ≡ Some fault.Read → ⊥) → new.files.faults ≡ old.files.faults

-- an open file is listed: by what it holds, this is to be printed, and so it ends
pub record ListsFile (file : ℕ) (of : FileText → Verdict) (end : Ending) (old new : Outside) : Type 0 where
  pub reads : ReadsOn file end old new
  pub follows : (bytes : List ℕ) → old.files.left file ≡ Some (Some bytes) → FollowsFile (of (file_text most_read bytes)) end old new

-- the items of an open file are listed, of which the head was read and no item
pub record ListsItems (items : HeadedFile) (line : Value → List ℕ) (t : Option Ty) (end : Ending) (old new : Outside) : Type 0 where
  pub reads : ReadsOn items.items.file end old new
  pub follows : (bytes : List ℕ) (head : Option Ty)
      → HasRead (Some (Some bytes)) head [] items (old.files.left items.items.file) → limit_of items ≡ most_read
      → FollowsFile (listed line t (file_text most_read bytes).items (file_text most_read bytes).behind) end old new
