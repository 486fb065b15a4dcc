-- What the program does.
use Rattle.std.specs.Prelude.{◌≡◌, ◌⊎◌, ◌++◌, ℕ, List, [], Result, Ok, Err, Option, Some, None}
use Rattle.std.specs.Io.KnownBytes.{append_known}
use Rattle.std.specs.Option.{option_map_or}
use Rattle.kl_base.specs.Counts.{Rose}
use Rattle.kl_outside.specs.Files.{FilesState}
use Rattle.kl_outside.specs.Sinks.{SinkState}
use Rattle.kl_json.specs.Answers.{Tells}
use Rattle.kl_tidy.specs.Causes.{IsPageFor, Told, WhyNoPage}
use Rattle.kl_tidy.specs.Refusals.{refusal_line, refusal_status}
use Rattle.kl_tidy.specs.Words.{command_of}
use Rattle.kl_tidy.specs.declared.refusal.Refusal.{Refusal}
use Rattle.kl_tidy.specs.declared.refusal.Refusal.TheVariants as refusal

-- the status, and the last line that is told, where nothing is printed for this reason, if for any
abbrev pub status_of : Option Refusal → ℕ
status_of why = option_map_or refusal_status why 0

abbrev pub line_of : Option Refusal → List ℕ
line_of why = option_map_or refusal_line why []

-- the sink took the table that the words ask for, of which these notes are told
abbrev pub PrintsWith : Told → List (List ℕ) → SinkState → SinkState → List ℕ → Type 0
PrintsWith told words old new notes = (page : List ℕ) × (new.taken ≡ append_known old.taken page) × IsPageFor told words page notes

abbrev pub Prints : Told → List (List ℕ) → SinkState → SinkState → Type 0
Prints told words old new = (notes : List ℕ) × PrintsWith told words old new notes

-- the sink took nothing, unless it failed or found no memory in the midst
abbrev pub PrintsNothing : SinkState → SinkState → Type 0
PrintsNothing old new = (new.taken ≡ old.taken) ⊎ (Rose old.faults new.faults ⊎ Rose old.wants new.wants)

-- why the call is refused: there is no page, or there is one and the sink failed
abbrev pub Cause : Refusal → List (List ℕ) → FilesState → FilesState → SinkState → SinkState → List ℕ → Type 0
Cause refusal.Write words files files' out out' notes = Rose out.faults out'.faults × ((page : List ℕ) × IsPageFor files.told words page notes)
Cause r words files files' out out' notes = WhyNoPage r words files files' notes

-- What the sink took where the call is refused: nothing. Only a sink that failed, or found no memory, may have taken a part.
abbrev pub HoldsBack : Refusal → SinkState → SinkState → Type 0
HoldsBack refusal.Write old new = PrintsNothing old new
HoldsBack refusal.NoMemory old new = PrintsNothing old new
HoldsBack r old new = new ≡ old

abbrev pub Does : Option Refusal → List (List ℕ) → FilesState → FilesState → SinkState → SinkState → List ℕ → Type 0
Does None words files files' out out' notes = PrintsWith files.told words out out' notes
Does (Some r) words files files' out out' notes = HoldsBack r out out' × Cause r words files files' out out' notes

-- What comes of the call is told by the status and, behind the notes, by the line of a refusal, as far as the sink takes them.
pub record Answers (words : List (List ℕ)) (status : ℕ) (files files' : FilesState) (out out' err err' : SinkState) : Type 0 where
  pub why : Option Refusal
  pub notes : List ℕ
  pub does : Does why words files files' out out' notes
  pub status_is : status ≡ status_of why
  pub tells : Tells (notes ++ line_of why) err err'

-- where the words are no command, the status says so, or that memory was wanting
abbrev pub TellsUsage : List (List ℕ) → ℕ → Type 0
TellsUsage words status = command_of words ≡ None → (status ≡ 1) ⊎ (status ≡ 9)

-- ---- for private functions alone

-- a page that was made is printed, or it is answered why nothing is
abbrev pub PutsOut : Result (List ℕ) Refusal → Option Refusal → SinkState → SinkState → Type 0
PutsOut (Ok page) None old new = new.taken ≡ append_known old.taken page
PutsOut (Ok page) (Some refusal.Write) old new = PrintsNothing old new × Rose old.faults new.faults
PutsOut (Ok page) (Some refusal.NoMemory) old new = PrintsNothing old new
PutsOut (Ok page) (Some r) old new = ⊥
PutsOut (Err r) why old new = (why ≡ Some r) × (new ≡ old)

-- what is told of a refusal: itself, or that there is no memory for its line
abbrev pub IsSaid : Option Refusal → Option Refusal → Type 0
IsSaid None told = told ≡ None
IsSaid (Some r) told = (told ≡ Some r) ⊎ (told ≡ Some refusal.NoMemory)

pub record TellsSo (why : Option Refusal) (notes : List ℕ) (status : ℕ) (old new : SinkState) : Type 0 where
  pub told : Option Refusal
  pub same : IsSaid why told
  pub status_is : status ≡ status_of told
  pub tells : Tells (notes ++ line_of told) old new
