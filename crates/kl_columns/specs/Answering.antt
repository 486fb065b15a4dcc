-- What the program does.
use Rattle.std.specs.Prelude.{◌≡◌, ◌⊎◌, ◌++◌, ℕ, false, List, [], IsTrue, Result, Ok, Err, ⊤}
use Rattle.std.specs.Io.KnownBytes.{append_known}
use Rattle.kl_base.specs.Counts.{Rose}
use Rattle.kl_outside.specs.Files.{FilesState}
use Rattle.kl_outside.specs.Sinks.{SinkState, WritesWhole}
use Rattle.kl_outside.specs.declared.Stop.{Stop}
use Rattle.kl_columns.specs.Causes.{AreNotes, WhyNoPage}
use Rattle.kl_columns.specs.Listing.{IsCatalogueOf, Told}
use Rattle.kl_columns.specs.Refusals.{refusal_line, refusal_status}
use Rattle.kl_columns.specs.Words.{are_files, paths_of, wants_sql}
use Rattle.kl_columns.specs.declared.refusal.Refusal.{Refusal}
use Rattle.kl_columns.specs.declared.refusal.Refusal.TheVariants as refusal

-- how the call ends: well, or refused
abbrev pub Ending : Type 0
Ending = Result (Unit {0}) Refusal

abbrev pub end_status : Ending → ℕ
end_status (Ok done) = 0
end_status (Err r) = refusal_status r

abbrev pub end_line : Ending → List ℕ
end_line (Ok done) = []
end_line (Err r) = refusal_line r

-- the words name files, and the page is their catalogue
pub record IsPageFor (told : Told) (words : List (List ℕ)) (page : List ℕ) : Type 0 where
  pub files : IsTrue (are_files (paths_of words))
  pub lists : IsCatalogueOf (wants_sql words) told (paths_of words) page

-- the sink took the catalogue of the files that the words name
abbrev pub Prints : Told → List (List ℕ) → SinkState → SinkState → Type 0
Prints told words old new = (page : List ℕ) × (new.taken ≡ append_known old.taken page) × IsPageFor told words page

-- the sink took nothing, unless it failed or found no memory in the midst
abbrev pub PrintsNothing : SinkState → SinkState → Type 0
PrintsNothing old new = (new.taken ≡ old.taken) ⊎ (Rose old.faults new.faults ⊎ Rose old.wants new.wants)

-- why the call is refused: there is no catalogue, or there is one and the sink failed
abbrev pub Cause : Refusal → List (List ℕ) → FilesState → FilesState → SinkState → SinkState → List ℕ → Type 0
Cause refusal.Write words files files' out out' notes =
    Rose out.faults out'.faults × ((page : List ℕ) × IsPageFor files.told words page) × AreNotes files.told (paths_of words) notes
Cause r words files files' out out' notes = WhyNoPage r words files files' notes

abbrev pub Does : Ending → List (List ℕ) → FilesState → FilesState → SinkState → SinkState → List ℕ → Type 0
Does (Ok done) words files files' out out' notes = Prints files.told words out out' × AreNotes files.told (paths_of words) notes
Does (Err r) words files files' out out' notes = PrintsNothing out out' × Cause r words files files' out out' notes

-- How the call ends is told by the status and, behind the notes, by the line of its refusal, as far as the sink takes them.
pub record Answers (words : List (List ℕ)) (status : ℕ) (files files' : FilesState) (out out' err err' : SinkState) : Type 0 where
  pub end : Ending
  pub status_is : status ≡ end_status end
  pub notes : List ℕ
  pub does : Does end words files files' out out' notes
  pub told : Result (Unit {0}) Stop
  pub tells : WritesWhole (notes ++ end_line end) told err err'

-- where the words name no files, the status says so, or that memory was wanting
abbrev pub TellsUsage : List (List ℕ) → ℕ → Type 0
TellsUsage words status = are_files (paths_of words) ≡ false → (status ≡ 1) ⊎ (status ≡ 9)

-- ---- for private functions alone

-- a page is made, or it is said why not
abbrev pub Makes : Result (List ℕ) Refusal → List (List ℕ) → FilesState → FilesState → List ℕ → Type 0
Makes (Ok page) words old new notes = IsPageFor old.told words page × AreNotes old.told (paths_of words) notes
Makes (Err r) words old new notes = WhyNoPage r words old new notes

abbrev pub StopsWriting : Refusal → SinkState → SinkState → Type 0
StopsWriting refusal.Write old new = Rose old.faults new.faults
StopsWriting refusal.NoMemory old new = ⊤
StopsWriting r old new = ⊥

-- a page that was made is printed
abbrev pub Puts : Result (List ℕ) Refusal → Ending → SinkState → SinkState → Type 0
Puts (Ok page) (Ok done) old new = new.taken ≡ append_known old.taken page
Puts (Ok page) (Err r) old new = PrintsNothing old new × StopsWriting r old new
Puts (Err r) (Ok done) old new = ⊥
Puts (Err r) (Err other) old new = (other ≡ r) × (new ≡ old)

-- a refusal stays what it is, unless there is no memory for its line
abbrev pub IsEndOf : Ending → Ending → Type 0
IsEndOf (Ok done) end = end ≡ Ok tt
IsEndOf (Err r) end = (end ≡ Err r) ⊎ (end ≡ Err refusal.NoMemory)

pub record Ends (ended : Ending) (notes : List ℕ) (status : ℕ) (old new : SinkState) : Type 0 where
  pub end : Ending
  pub same : IsEndOf ended end
  pub status_is : status ≡ end_status end
  pub told : Result (Unit {0}) Stop
  pub tells : WritesWhole (notes ++ end_line end) told old new
