-- Steps of reading a file of values. No public contract cites this.
use Rattle.std.specs.Prelude.{◌≡◌, ◌⊎◌, ℕ, ◌≤◌, List, [], Option, Some, None, IsSome, Result, Ok, Err, IsErrOf, ⊤}
use Rattle.kl_base.specs.Counts.{Rose}
use Rattle.kl_value.specs.declared.Value.{Value}
use Rattle.kl_type.specs.declared.ground.Ty.{Ty}
use Rattle.kl_outside.specs.Files.{FilesState, Holds, IsMissing, OtherFiles}
use Rattle.kl_exchange.specs.FileItems.{most_read}
use Rattle.kl_exchange.specs.FileReading.{Left}
use Rattle.kl_exchange.specs.declared.error.FileError.{FileError}
use Rattle.kl_exchange.specs.declared.error.FileError.TheVariants as fault
use Rattle.kl_heads.specs.FileReading.{HasRead, HeadedFile, limit_of}
use Rattle.kl_shape.specs.Joining.{Answers, Joins}
use Rattle.kl_shape.specs.Shapes.{filled}
use Rattle.kl_shape.specs.declared.shape.Shape.{Shape}
use Rattle.kl_columns.specs.Values.{TellsItems}
use Rattle.kl_columns.specs.declared.values.Unfit.{Unfit}
use Rattle.kl_columns.specs.declared.values.Unfit.TheVariants as unfit

-- why no more is read
abbrev pub unread_as : FileError → Unfit
unread_as (fault.Bad place) = unfit.Bad place
unread_as (fault.TooDeep place) = unfit.TooDeep
unread_as fault.TooLong = unfit.TooLong
unread_as fault.Read = unfit.Read
unread_as fault.NoMemory = unfit.NoMemory

-- the shape that is joined of a shape and the item of a number
abbrev pub JoinsItem : Shape → Value → ℕ → Result Shape Unfit → Type 0
JoinsItem s v n (Ok joined) = Answers s v (Some joined)
JoinsItem s v n (Err (unfit.Untyped item)) = (item ≡ n) × Joins s v None
JoinsItem s v n (Err unfit.NoMemory) = ⊤
JoinsItem s v n (Err e) = ⊥

-- the type of a shape
abbrev pub IsLeastOf : Shape → Result Ty Unfit → Type 0
IsLeastOf s (Ok t) = t ≡ filled s
IsLeastOf s (Err unfit.NoMemory) = ⊤
IsLeastOf s (Err e) = ⊥

-- the head was read, and no item
pub record IsBeforeItems (head : Option Ty) (now : HeadedFile) (left : Left) : Type 0 where
  pub first : Left
  pub has_read : HasRead first head [] now left
  pub limit_is : limit_of now ≡ most_read

-- an open file is read to its end, or as far as it goes
pub record ReadsOpen (file : ℕ) (result : Result Ty Unfit) (old new : FilesState) : Type 0 where
  pub told : new.told ≡ old.told
  pub others : OtherFiles file old new
  pub is_open : IsSome (new.left file)
  pub later : old.faults ≤ new.faults
  pub failed : IsErrOf result unfit.Read → Rose old.faults new.faults

-- behind the head
pub record ReadsItems (head : Option Ty) (result : Result Ty Unfit) (now : HeadedFile) (old new : FilesState) : Type 0 where
  pub reads : ReadsOpen now.items.file result old new
  pub known : (bytes : List ℕ) → HasRead (Some (Some bytes)) head [] now (old.left now.items.file) → TellsItems bytes result

-- from its start
pub record ReadsThrough (file : ℕ) (result : Result Ty Unfit) (old new : FilesState) : Type 0 where
  pub reads : ReadsOpen file result old new
  pub known : (bytes : List ℕ) → old.left file ≡ Some (Some bytes) → TellsItems bytes result

-- the file at a path
pub record ReadsValues (path : List ℕ) (result : Result Ty Unfit) (old new : FilesState) : Type 0 where
  pub told : new.told ≡ old.told
  pub later : old.faults ≤ new.faults
  pub failed : IsErrOf result unfit.Read → IsMissing old path ⊎ Rose old.faults new.faults
  pub missing : IsMissing old path → IsErrOf result unfit.Read
  pub known : (bytes : List ℕ) → Holds old path bytes → TellsItems bytes result
