-- What the words ask for.
use Rattle.std.specs.Prelude.{◌≡◌, ℕ, Bool, false, List, [], Option, Some, None, ⊤}
use Rattle.kl_outside.specs.Files.{FilesState}
use Rattle.kl_words.specs.declared.command.Command.{Command as Read}
use Rattle.kl_words.specs.declared.command.Command.TheVariants as read
use Rattle.kl_engine.specs.declared.top.Purpose.{Purpose}
use Rattle.kl_engine.specs.declared.top.Purpose.TheVariants as purpose

-- Where the text of a program and that of its catalogue come from: the files at a path and at another, if there is one; or
-- they are those over so many made rows of a seed.
pub data Origin : Type 0 where
  Files : List ℕ → Option (List ℕ) → Origin
  Made : ℕ → ℕ → Origin

pub data Command : Type 0 where
  NoneNamed : Command
  -- something is done with a program
  Program : Purpose → Origin → Command
  Show : List ℕ → Command
  -- a file, and the text of a type
  Upgrade : List ℕ → List ℕ → Command

-- the command of the words, as they are read
abbrev pub asked : Option Read → Command
asked None = NoneNamed
asked (Some (read.Run job)) = Program (purpose.Run job.first) (Files job.program job.catalogue)
asked (Some (read.Explain job)) = Program (purpose.Explain job.settings) (Files job.program job.catalogue)
asked (Some (read.Types program catalogue)) = Program purpose.Types (Files program catalogue)
asked (Some (read.Check program catalogue)) = Program purpose.Check (Files program catalogue)
asked (Some (read.Show file)) = Show file
asked (Some (read.Upgrade file word)) = Upgrade file word
asked (Some (read.Gen seed size)) = Program (purpose.Run None) (Made seed size)

-- whether what was counted is to be told
abbrev pub wants_stats : Option Read → Bool
wants_stats (Some (read.Run job)) = job.stats
wants_stats command = false

-- the path that the words name
abbrev pub path_of : Command → List ℕ
path_of NoneNamed = []
path_of (Program purpose (Files path catalogue)) = path
path_of (Program purpose (Made seed size)) = []
path_of (Show path) = path
path_of (Upgrade path word) = path

-- no word names a file
abbrev pub NamesNoFile : Command → Type 0
NamesNoFile NoneNamed = ⊤
NamesNoFile (Program purpose (Files path catalogue)) = ⊥
NamesNoFile (Program purpose (Made seed size)) = ⊤
NamesNoFile (Show path) = ⊥
NamesNoFile (Upgrade path word) = ⊥

-- The files tell these bytes. A program over made rows reads none, so any do.
abbrev pub TellTo : Origin → FilesState → (List ℕ → Option (List ℕ)) → Type 0
TellTo (Files path catalogue) files told = files.told ≡ Some told
TellTo (Made seed size) files told = ⊤

abbrev pub Tell : Command → FilesState → (List ℕ → Option (List ℕ)) → Type 0
Tell (Program purpose from) files told = TellTo from files told
Tell command files told = files.told ≡ Some told
