-- Why no catalogue is printed, and what is told of the columns that are left out.
use Rattle.std.specs.Prelude.{◌≡◌, ◌⊎◌, ◌<◌, ℕ, Bool, true, false, cond, IsTrue, List, [], ◌∷◌, ◌++◌, length, Option, Some, None, Result, Ok, Err, ⊤}
use Rattle.std.specs.List.{flat_map}
use Rattle.kl_base.specs.Counts.{Rose}
use Rattle.kl_type.specs.declared.ground.Ty.{Ty}
use Rattle.kl_outside.specs.Files.{FilesState, IsMissing}
use Rattle.kl_catalogue.specs.Reading.{IsCatalogue}
use Rattle.kl_catalogue.specs.declared.reading.Entry.{Entry}
use Rattle.kl_exchange.specs.FileItems.{most_read}
use Rattle.kl_ask.specs.Driver.{Bad, Long}
use Rattle.kl_flat.specs.Flat.{most_bytes}
use Rattle.kl_flat.specs.Table.{table_records}
use Rattle.kl_columns.specs.Headers.{first_bad, table_notes}
use Rattle.kl_columns.specs.Listing.{ListAll, ListEach, Told}
use Rattle.kl_columns.specs.Values.{IsFound, IsFoundDeep, IsUntyped}
use Rattle.kl_columns.specs.Words.{are_files, is_table, paths_of, wants_sql}
use Rattle.kl_columns.specs.Writing.{entry_line}
use Rattle.kl_columns.specs.declared.refusal.Refusal.{Refusal}
use Rattle.kl_columns.specs.declared.refusal.Refusal.TheVariants as refusal
use Rattle.kl_columns.specs.declared.values.Unfit.{Unfit}
use Rattle.kl_columns.specs.declared.values.Unfit.TheVariants as unfit

-- ---- one file

-- what is told of the columns of a table, where it is there
abbrev pub notes_in : List ℕ → Option (List ℕ) → List ℕ
notes_in path None = []
notes_in path (Some bytes) = table_notes path bytes

abbrev pub notes_at : (List ℕ → Option (List ℕ)) → List ℕ → List ℕ
notes_at files path = cond (is_table path) (notes_in path (files path)) []

-- the notes are those of the tables at these paths, where files tell their bytes
abbrev pub AreNotes : Told → List (List ℕ) → List ℕ → Type 0
AreNotes told paths notes = (files : List ℕ → Option (List ℕ)) → told ≡ Some files → notes ≡ flat_map (notes_at files) paths

-- where files tell their bytes, the path has some of which this is true
abbrev pub HasBytes : Told → List ℕ → (List ℕ → Type 0) → Type 0
HasBytes told path P = (files : List ℕ → Option (List ℕ)) → told ≡ Some files → (bytes : List ℕ) × (files path ≡ Some bytes) × P bytes

-- why a table is refused: its first bad record, that it is missing or failed, or its length
abbrev pub RefusesTable : Refusal → List ℕ → FilesState → FilesState → Type 0
RefusesTable (refusal.BadFile at n) path old new = (at ≡ path) × HasBytes old.told path (λ bytes. first_bad (table_records bytes) ≡ Some n)
RefusesTable refusal.Read path old new = IsMissing old path ⊎ Rose old.faults new.faults
RefusesTable refusal.FileBytes path old new = HasBytes old.told path (λ bytes. most_bytes < length bytes)
RefusesTable refusal.NoMemory path old new = ⊤
RefusesTable _ path old new = ⊥

-- why a file of values is: where it is no text of values or an item lacks the type that is stated, its first item that has no type in
-- common with those before it, a bracket too many, or as a table
abbrev pub RefusesValues : Refusal → List ℕ → FilesState → FilesState → Type 0
RefusesValues (refusal.BadText at place) path old new = (at ≡ path) × HasBytes old.told path (λ bytes. IsFound bytes (Bad place))
RefusesValues (refusal.NoCommonType at n) path old new = (at ≡ path) × HasBytes old.told path (λ bytes. IsUntyped bytes n)
RefusesValues refusal.ItemNesting path old new = HasBytes old.told path IsFoundDeep
RefusesValues refusal.FileBytes path old new = HasBytes old.told path (λ bytes. IsFound bytes (Long most_read))
RefusesValues refusal.Read path old new = IsMissing old path ⊎ Rose old.faults new.faults
RefusesValues refusal.NoMemory path old new = ⊤
RefusesValues _ path old new = ⊥

abbrev pub RefusesAs : Bool → Refusal → List ℕ → FilesState → FilesState → Type 0
RefusesAs true r path old new = RefusesTable r path old new
RefusesAs false r path old new = RefusesValues r path old new

abbrev pub RefusesFile : Refusal → List ℕ → FilesState → FilesState → Type 0
RefusesFile r path old new = RefusesAs (is_table path) r path old new

-- of a table that is refused the notes are told where its header was read
abbrev pub NotesUpTo : Refusal → Told → List (List ℕ) → List ℕ → List ℕ → Type 0
NotesUpTo (refusal.BadFile at n) told before path notes = AreNotes told (before ++ path ∷ []) notes
NotesUpTo refusal.NoMemory told before path notes = ⊤
NotesUpTo r told before path notes = AreNotes told before notes

-- ---- all files

-- the first file that is wrong, and why; those before it have types
pub record StopsAt (sql : Bool) (paths : List (List ℕ)) (r : Refusal) (old new : FilesState) (notes : List ℕ) : Type 0 where
  pub before : List (List ℕ)
  pub path : List ℕ
  pub after : List (List ℕ)
  pub split : paths ≡ before ++ path ∷ after
  pub entries : List Entry
  pub good : ListEach sql old.told before entries
  pub why : RefusesFile r path old new
  pub noted : NotesUpTo r old.told before path notes

-- entries list all files, but of their text this is true
pub record StopsBehind (sql : Bool) (paths : List (List ℕ)) (told : Told) (P : List Entry → List ℕ → Type 0) (notes : List ℕ) : Type 0 where
  pub entries : List Entry
  pub good : ListAll sql told paths entries
  pub why : P entries (flat_map entry_line entries)
  pub noted : AreNotes told paths notes

abbrev pub WhyNoCatalogue : Refusal → Bool → List (List ℕ) → FilesState → FilesState → List ℕ → Type 0
WhyNoCatalogue (refusal.BadFile at n) sql paths old new notes = StopsAt sql paths (refusal.BadFile at n) old new notes
WhyNoCatalogue (refusal.BadText at place) sql paths old new notes = StopsAt sql paths (refusal.BadText at place) old new notes
WhyNoCatalogue (refusal.NoCommonType at n) sql paths old new notes = StopsAt sql paths (refusal.NoCommonType at n) old new notes
WhyNoCatalogue refusal.ItemNesting sql paths old new notes = StopsAt sql paths refusal.ItemNesting old new notes
WhyNoCatalogue refusal.Read sql paths old new notes = StopsAt sql paths refusal.Read old new notes
WhyNoCatalogue refusal.FileBytes sql paths old new notes = StopsAt sql paths refusal.FileBytes old new notes
WhyNoCatalogue (refusal.BadCatalogue byte) sql paths old new notes = StopsBehind sql paths old.told (λ entries page. IsCatalogue page entries → ⊥) notes
WhyNoCatalogue refusal.CatalogueBytes sql paths old new notes = StopsBehind sql paths old.told (λ entries page. 65536 < length page) notes
WhyNoCatalogue refusal.NoMemory sql paths old new notes = ⊤
WhyNoCatalogue refusal.Usage sql paths old new notes = ⊥
WhyNoCatalogue refusal.Write sql paths old new notes = ⊥

-- the words name no files, or else the files have no catalogue
abbrev pub WhyNoPage : Refusal → List (List ℕ) → FilesState → FilesState → List ℕ → Type 0
WhyNoPage refusal.Usage words old new notes = (are_files (paths_of words) ≡ false) × (notes ≡ [])
WhyNoPage refusal.NoMemory words old new notes = ⊤
WhyNoPage r words old new notes = IsTrue (are_files (paths_of words)) × WhyNoCatalogue r (wants_sql words) (paths_of words) old new notes

-- ---- for private functions alone

-- of one file the notes stand behind others, unless it was not read
abbrev pub AddsNotes : Result Ty Refusal → Told → List ℕ → List ℕ → List ℕ → Type 0
AddsNotes (Ok ty) told path old new = (files : List ℕ → Option (List ℕ)) → told ≡ Some files → new ≡ old ++ notes_at files path
AddsNotes (Err (refusal.BadFile at n)) told path old new = (files : List ℕ → Option (List ℕ)) → told ≡ Some files → new ≡ old ++ notes_at files path
AddsNotes (Err refusal.NoMemory) told path old new = ⊤
AddsNotes (Err r) told path old new = new ≡ old

-- the refusal of a file of values
abbrev pub refusal_as : List ℕ → Unfit → Refusal
refusal_as path (unfit.Bad place) = refusal.BadText path place
refusal_as path (unfit.Untyped n) = refusal.NoCommonType path n
refusal_as path unfit.TooDeep = refusal.ItemNesting
refusal_as path unfit.TooLong = refusal.FileBytes
refusal_as path unfit.Read = refusal.Read
refusal_as path unfit.NoMemory = refusal.NoMemory

-- why a text is none of these entries
abbrev pub WhyNoText : List Entry → Refusal → Type 0
WhyNoText entries (refusal.BadCatalogue byte) = IsCatalogue (flat_map entry_line entries) entries → ⊥
WhyNoText entries refusal.CatalogueBytes = 65536 < length (flat_map entry_line entries)
WhyNoText entries refusal.NoMemory = ⊤
WhyNoText entries r = ⊥
