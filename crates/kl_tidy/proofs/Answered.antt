-- What comes of the file that a command names.
use Rattle.std.proofs.Common.{◌≡◌, ℕ, List, [], Option, Some, None, Result, Ok, Err, refl, sym, ap}
use Rattle.kl_outside.specs.Files.{FilesState, ReadsWhole}
use Rattle.kl_outside.specs.declared.files.Whole.TheVariants.{Bytes, TooLong}
use Rattle.kl_outside.proofs.FileLemmas.{was_there}
use Rattle.kl_flat.specs.Flat.{most_bytes}
use Rattle.kl_tidy.specs.Causes.{HasBytes, IsTooLong, MakesFor, MakesOf}
use Rattle.kl_tidy.specs.declared.refusal.Refusal.{Refusal}
use Rattle.kl_tidy.specs.declared.refusal.Refusal.TheVariants as refusal
use Rattle.kl_tidy.specs.declared.words.Command.{Command}

pub bytes_at : (path bytes : List ℕ) (most : ℕ) (s t : FilesState) → ReadsWhole path most (Ok (Bytes bytes)) s t → HasBytes s.told path bytes
bytes_at path bytes most s t read files told = by (files path) refl
  where
    by : (found : Option (List ℕ)) → files path ≡ found → found ≡ Some bytes
    by None is = let gone = (read.missing (files, told, is)).0 in cc
    by (Some b) is = ap Some (sym (read.whole b (files, told, is)).0)

pub too_long : (path : List ℕ) (old new : FilesState) → ReadsWhole path most_bytes (Ok TooLong) old new → IsTooLong old.told path
too_long path old new reads files told = was_there path most_bytes TooLong old new files reads told

-- what is made of the bytes is made for the command
pub makes_for : (r : Result (List ℕ) Refusal) (command : Command) (bytes : List ℕ) (old new : FilesState) (notes : List ℕ) → HasBytes old.told command.path bytes
    → MakesOf r command bytes notes → MakesFor r command old new notes
makes_for (Ok page) command bytes old new notes file h = (bytes, file, h)
makes_for (Err (refusal.BadFile path w)) command bytes old new notes file h = (h.0, record { bytes = bytes; file = file; wrong = h.1 })
makes_for (Err refusal.NoMemory) command bytes old new notes file h = tt
makes_for (Err refusal.Usage) command bytes old new notes file h = absurd h
makes_for (Err refusal.Read) command bytes old new notes file h = absurd h
makes_for (Err refusal.Write) command bytes old new notes file h = absurd h
makes_for (Err refusal.FileBytes) command bytes old new notes file h = absurd h
