-- Why no table is printed.
use Rattle.std.specs.Prelude.{◌≡◌, ◌⊎◌, ◌<◌, ℕ, List, [], length, Option, Some, None, Result, Ok, Err, ⊤}
use Rattle.kl_base.specs.Counts.{Rose}
use Rattle.kl_outside.specs.Files.{FilesState, IsMissing}
use Rattle.kl_flat.specs.Flat.{most_bytes}
use Rattle.kl_tidy.specs.Tables.{IsWrong, Tidies}
use Rattle.kl_tidy.specs.Words.{command_of}
use Rattle.kl_tidy.specs.declared.columns.Wrong.{Wrong}
use Rattle.kl_tidy.specs.declared.refusal.Refusal.{Refusal}
use Rattle.kl_tidy.specs.declared.refusal.Refusal.TheVariants as refusal
use Rattle.kl_tidy.specs.declared.words.Command.{Command}

-- the bytes of each path, where files tell them, with none at a path that is missing
abbrev pub Told : Type 0
Told = Option (List ℕ → Option (List ℕ))

-- where files tell their bytes, the path has these
abbrev pub HasBytes : Told → List ℕ → List ℕ → Type 0
HasBytes told path bytes = (files : List ℕ → Option (List ℕ)) → told ≡ Some files → files path ≡ Some bytes

-- the page is the table that the words ask for, and the notes tell which headers were changed
pub record IsPageFor (told : Told) (words : List (List ℕ)) (page notes : List ℕ) : Type 0 where
  pub command : Command
  pub asked : command_of words ≡ Some command
  pub bytes : List ℕ
  pub file : HasBytes told command.path bytes
  pub tidies : Tidies command bytes page notes

-- the file that a command names is no table as the words name it: so it is wrong first
pub record IsWrongAt (command : Command) (told : Told) (w : Wrong) (notes : List ℕ) : Type 0 where
  pub bytes : List ℕ
  pub file : HasBytes told command.path bytes
  pub wrong : IsWrong command bytes w notes

-- where files tell their bytes, the path has more than are read
abbrev pub IsTooLong : Told → List ℕ → Type 0
IsTooLong told path = (files : List ℕ → Option (List ℕ)) → told ≡ Some files → (bytes : List ℕ) × (files path ≡ Some bytes) × (most_bytes < length bytes)

-- why the file of a command is refused, and what is told before that
abbrev pub RefusesFile : Refusal → Command → FilesState → FilesState → List ℕ → Type 0
RefusesFile (refusal.BadFile path w) command old new notes = (path ≡ command.path) × IsWrongAt command old.told w notes
RefusesFile refusal.Read command old new notes = (IsMissing old command.path ⊎ Rose old.faults new.faults) × (notes ≡ [])
RefusesFile refusal.FileBytes command old new notes = IsTooLong old.told command.path × (notes ≡ [])
RefusesFile refusal.NoMemory command old new notes = ⊤
RefusesFile refusal.Usage command old new notes = ⊥
RefusesFile refusal.Write command old new notes = ⊥

-- the words are no command, or the file of their command is refused
abbrev pub WhyNoPage : Refusal → List (List ℕ) → FilesState → FilesState → List ℕ → Type 0
WhyNoPage refusal.Usage words old new notes = (command_of words ≡ None) × (notes ≡ [])
WhyNoPage refusal.NoMemory words old new notes = ⊤
WhyNoPage r words old new notes = (command : Command) × (command_of words ≡ Some command) × RefusesFile r command old new notes

-- ---- for private functions alone

-- a page is made, or it is said why not
abbrev pub Makes : Result (List ℕ) Refusal → List (List ℕ) → FilesState → FilesState → List ℕ → Type 0
Makes (Ok page) words old new notes = IsPageFor old.told words page notes
Makes (Err r) words old new notes = WhyNoPage r words old new notes

abbrev pub MakesFor : Result (List ℕ) Refusal → Command → FilesState → FilesState → List ℕ → Type 0
MakesFor (Ok page) command old new notes = (bytes : List ℕ) × HasBytes old.told command.path bytes × Tidies command bytes page notes
MakesFor (Err r) command old new notes = RefusesFile r command old new notes

abbrev pub MakesOf : Result (List ℕ) Refusal → Command → List ℕ → List ℕ → Type 0
MakesOf (Ok page) command bytes notes = Tidies command bytes page notes
MakesOf (Err (refusal.BadFile path w)) command bytes notes = (path ≡ command.path) × IsWrong command bytes w notes
MakesOf (Err refusal.NoMemory) command bytes notes = ⊤
MakesOf (Err r) command bytes notes = ⊥
