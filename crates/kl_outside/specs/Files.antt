-- What files mean, and what each call does to them.
use Rattle.std.specs.Prelude.{◌≡◌, ◌≢◌, ◌⊎◌, ◌==◌, ℕ, ◌≤◌, ◌<◌, Bool, false, List, [], ◌++◌, length, take}
use Rattle.std.specs.Prelude.{Result, Err, Option, Some, None, IfOk, OnErr, IsErrOf, IsSome, ⊤}
use Rattle.std.specs.Option.{option_map}
use Rattle.kl_base.specs.Counts.{Rose}
use Rattle.kl_outside.specs.declared.stop.Stop.{Stop}
use Rattle.kl_outside.specs.declared.stop.Stop.TheVariants.{Failed}
use Rattle.kl_outside.specs.declared.files.Whole.{Whole}
use Rattle.kl_outside.specs.declared.files.Whole.TheVariants.{Bytes, TooLong}

-- What was read of a file since it was opened: the bytes, and whether the last read found its end behind them.
pub record Seen : Type 0 where
  pub bytes : List ℕ
  pub ended : Bool

-- What is known of some files: the bytes of each path, where they are told, with none at a path that is missing;
-- under each number whether a file is open, and what it has left, where that is known; what was read under each number since
-- a file was opened under it, where the files keep that; and how often a call failed.
pub record FilesState : Type 0 where
  pub told : Option (List ℕ → Option (List ℕ))
  pub left : ℕ → Option (Option (List ℕ))
  pub log : Option (ℕ → Seen)
  pub faults : ℕ

-- no file is open
abbrev pub NoneOpen : FilesState → Type 0
NoneOpen s = (k : ℕ) → s.left k ≡ None

-- The path is told to have these bytes.
abbrev pub Holds : FilesState → List ℕ → List ℕ → Type 0
Holds s path bytes = (files : _) × (s.told ≡ Some files) × (files path ≡ Some bytes)

-- The path is told to be missing.
abbrev pub IsMissing : FilesState → List ℕ → Type 0
IsMissing s path = (files : _) × (s.told ≡ Some files) × (files path ≡ None)

-- what a file has left when it is opened
abbrev pub left_at_first : Option (List ℕ → Option (List ℕ)) → List ℕ → Option (List ℕ)
left_at_first None path = None
left_at_first (Some files) path = files path

-- Every other file is open or not as it was, and has the same bytes left.
abbrev pub OtherFiles : ℕ → FilesState → FilesState → Type 0
OtherFiles file old new = (k : ℕ) → k ≢ file → new.left k ≡ old.left k

-- ---- what was read

abbrev pub nothing_seen : Seen
nothing_seen = record { bytes = []; ended = false }

-- after a read of this piece
abbrev pub seen_then : List ℕ → Seen → Seen
seen_then piece seen = record { bytes = seen.bytes ++ piece; ended = length piece == 0 }

-- what was read under a number, where that is kept
abbrev pub seen_in : FilesState → ℕ → Option Seen
seen_in s file = option_map (λ log. log file) s.log

-- what was read under every other number is as it was
abbrev pub OtherSeen : ℕ → FilesState → FilesState → Type 0
OtherSeen file old new = (k : ℕ) → k ≢ file → seen_in new k ≡ seen_in old k

-- ---- calls

-- The count of faults rises with the answer `Failed` alone.
abbrev pub CountsFailed : {T : Type 0} → Result T Stop → ℕ → ℕ → Type 0
CountsFailed (Err Failed) before now = before ≤ now
CountsFailed _ before now = now ≡ before

-- `open_path`
pub record OpensPath (path : List ℕ) (result : Result ℕ Stop) (old new : FilesState) : Type 0 where
  pub told : new.told ≡ old.told
  pub fresh : IfOk result (λ file. old.left file ≡ None)
  pub left : IfOk result (λ file. new.left file ≡ Some (left_at_first old.told path))
  pub others : IfOk result (λ file. OtherFiles file old new)
  pub refused : OnErr result (new.left ≡ old.left)
  pub unread : IfOk result (λ file. seen_in new file ≡ option_map (λ log. nothing_seen) old.log)
  pub others_seen : IfOk result (λ file. OtherSeen file old new)
  pub refused_seen : OnErr result ((k : ℕ) → seen_in new k ≡ seen_in old k)
  pub later : old.faults ≤ new.faults
  pub counts : CountsFailed result old.faults new.faults
  pub failed : IsErrOf result Failed → IsMissing old path ⊎ Rose old.faults new.faults
  pub missing : IsMissing old path → IsErrOf result Failed × (new.faults ≡ old.faults)

-- An open file has lost these bytes from the front of what it had left. Where that is not known, nothing is said.
abbrev pub Consumed : Option (Option (List ℕ)) → Option (Option (List ℕ)) → List ℕ → Type 0
Consumed (Some (Some old)) (Some (Some new)) bytes = old ≡ bytes ++ new
Consumed (Some None) (Some None) bytes = ⊤
Consumed (Some (Some old)) (Some None) bytes = ⊥
Consumed (Some (Some old)) None bytes = ⊥
Consumed (Some None) (Some (Some new)) bytes = ⊥
Consumed (Some None) None bytes = ⊥
Consumed None new bytes = ⊥

-- no known byte is left
abbrev pub IsAtEnd : Option (Option (List ℕ)) → Type 0
IsAtEnd left = (bytes : _) → left ≡ Some (Some bytes) → bytes ≡ []

-- `read`
pub record ReadsPiece (file : ℕ) (into : List ℕ) (result : Result ℕ Stop) (old new : FilesState) : Type 0 where
  pub told : new.told ≡ old.told
  pub within : IfOk result (λ count. count ≤ length into)
  pub bytes : IfOk result (λ count. Consumed (old.left file) (new.left file) (take count into))
  pub end : IfOk result (λ count. count ≡ 0 → IsAtEnd (old.left file))
  pub others : OtherFiles file old new
  pub refused : OnErr result (new.left ≡ old.left)
  -- the bytes are put behind those that were read before
  pub seen : IfOk result (λ count. seen_in new file ≡ option_map (seen_then (take count into)) (seen_in old file))
  pub others_seen : OtherSeen file old new
  pub refused_seen : OnErr result (seen_in new file ≡ seen_in old file)
  pub later : old.faults ≤ new.faults
  pub counts : CountsFailed result old.faults new.faults
  pub failed : IsErrOf result Failed → Rose old.faults new.faults

-- `close`
pub record Closes (file : ℕ) (old new : FilesState) : Type 0 where
  pub told : new.told ≡ old.told
  pub closed : new.left file ≡ None
  pub others : OtherFiles file old new
  pub seen : (k : ℕ) → seen_in new k ≡ seen_in old k
  pub faults : new.faults ≡ old.faults

-- These bytes are few enough and were answered, or they are too many.
abbrev pub IsWhole : ℕ → List ℕ → Whole → Type 0
IsWhole most bytes (Bytes whole) = (whole ≡ bytes) × (length bytes ≤ most)
IsWhole most bytes TooLong = most < length bytes

-- No more bytes were answered than is allowed.
abbrev pub HasAtMost : ℕ → Whole → Type 0
HasAtMost most (Bytes whole) = length whole ≤ most
HasAtMost most TooLong = ⊤

-- `read_whole`
pub record ReadsWhole (path : List ℕ) (most : ℕ) (result : Result Whole Stop) (old new : FilesState) : Type 0 where
  pub told : new.told ≡ old.told
  pub left : new.left ≡ old.left
  pub open_seen : (k : ℕ) → IsSome (old.left k) → seen_in new k ≡ seen_in old k
  pub whole : (bytes : List ℕ) → Holds old path bytes → IfOk result (IsWhole most bytes)
  pub within : IfOk result (HasAtMost most)
  pub later : old.faults ≤ new.faults
  pub counts : CountsFailed result old.faults new.faults
  pub failed : IsErrOf result Failed → IsMissing old path ⊎ Rose old.faults new.faults
  pub missing : IsMissing old path → IsErrOf result Failed × (new.faults ≡ old.faults)

-- for private functions alone: the part of `read_whole` between opening and closing
pub record ReadsRest (file most : ℕ) (result : Result Whole Stop) (old new : FilesState) : Type 0 where
  pub told : new.told ≡ old.told
  pub others : OtherFiles file old new
  pub others_seen : OtherSeen file old new
  pub whole : (bytes : List ℕ) → old.left file ≡ Some (Some bytes) → IfOk result (IsWhole most bytes)
  pub within : IfOk result (HasAtMost most)
  pub later : old.faults ≤ new.faults
  pub counts : CountsFailed result old.faults new.faults
  pub failed : IsErrOf result Failed → Rose old.faults new.faults
