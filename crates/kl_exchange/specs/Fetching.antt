-- What comes to a reader from an open file. No public contract cites this.
use Rattle.std.specs.Prelude.{◌≡◌, ℕ, ◌≤◌, List, ◌++◌, length, Result, Ok, Err, IsErrOf, IsSome}
use Rattle.std.specs.Option.{option_map}
use Rattle.kl_base.specs.Counts.{Rose}
use Rattle.kl_outside.specs.Files.{CountsFailed, FilesState, OtherFiles, OtherSeen, Consumed, IsAtEnd, seen_in, seen_then}
use Rattle.kl_outside.specs.declared.Stop.{Stop}
use Rattle.kl_outside.specs.declared.Stop.TheVariants as stop

-- bytes that were put behind others, or the file's end, or nothing
abbrev pub CameBehind : ℕ → ℕ → Result ℕ Stop → List ℕ → List ℕ → FilesState → FilesState → Type 0
CameBehind file most (Ok count) old new files files' =
    (piece : List ℕ) × (new ≡ old ++ piece) × (length piece ≡ count) × (count ≤ most) × Consumed (files.left file) (files'.left file) piece
    × (count ≡ 0 → IsAtEnd (files.left file)) × (seen_in files' file ≡ option_map (seen_then piece) (seen_in files file))
CameBehind file most (Err e) old new files files' = (new ≡ old) × (files'.left file ≡ files.left file)
    × (seen_in files' file ≡ seen_in files file)

-- The next bytes of an open file, at most so many, were put behind others.
pub record FetchesBehind (file most : ℕ) (result : Result ℕ Stop) (old new : List ℕ) (files files' : FilesState) : Type 0 where
  pub told : files'.told ≡ files.told
  pub others : OtherFiles file files files'
  pub is_open : IsSome (files'.left file)
  pub others_seen : OtherSeen file files files'
  pub later : files.faults ≤ files'.faults
  pub counts : CountsFailed result files.faults files'.faults
  pub failed : IsErrOf result stop.Failed → Rose files.faults files'.faults
  pub came : CameBehind file most result old new files files'
