-- Why no catalogue is printed.
use Rattle.std.proofs.Common.{◌≡◌, ◌⊎◌, ◌<◌, ◌≤◌, ◌+◌, inl, inr, ℕ, Bool, true, false, IsTrue, List, [], ◌∷◌, ◌++◌, length, get_or, take, drop, Some, Ok, Err, sym, ap, subst, ◌∙◌, arith}
use Rattle.std.specs.List.{flat_map}
use Rattle.std.proofs.lemmas.List.{drop_more, take_more}
use Rattle.std.proofs.lemmas.Grind.{common_steps}
use Rattle.kl_type.specs.declared.ground.Ty.{Ty}
use Rattle.kl_base.specs.Counts.{Rose}
use Rattle.kl_outside.specs.Files.{FilesState, IsMissing}
use Rattle.kl_catalogue.specs.declared.reading.Entry.{Entry}
use Rattle.kl_columns.specs.Causes.{AddsNotes, AreNotes, NotesUpTo, RefusesAs, RefusesFile, RefusesTable, RefusesValues, StopsAt, WhyNoCatalogue, WhyNoPage, notes_at}
use Rattle.kl_columns.specs.Listing.{ListAll, Told}
use Rattle.kl_columns.specs.Words.{are_files, is_table, paths_of, wants_sql}
use Rattle.kl_columns.specs.declared.refusal.Refusal.{Refusal}
use Rattle.kl_columns.specs.declared.refusal.Refusal.TheVariants as refusal

flat_map_last : (f : List ℕ → List ℕ) (ps : List (List ℕ)) (p : List ℕ) → flat_map f (ps ++ p ∷ []) ≡ flat_map f ps ++ f p
flat_map_last f ps p = grind (arith, common_steps)

notes_more : (told : Told) (before : List (List ℕ)) (path old new : List ℕ) → AreNotes told before old
    → ((files : _) → told ≡ Some files → new ≡ old ++ notes_at files path) → AreNotes told (before ++ path ∷ []) new
notes_more told before path old new were adds files is = adds files is ∙ ap (λ n. n ++ notes_at files path) (were files is) ∙ sym (flat_map_last (notes_at files) before path)

-- the notes of the file of this place are told behind those before it
pub noted_more : (told : Told) (paths : List (List ℕ)) (i : ℕ) (path : List ℕ) (ty : Ty) (old new : List ℕ) → i < length paths → path ≡ get_or paths i path
    → AreNotes told (take i paths) old → AddsNotes (Ok ty) told path old new → AreNotes told (take (i + 1) paths) new
noted_more told paths i path ty old new less at were adds =
    subst (λ ps. AreNotes told ps new) ((λ j. take i paths ++ at j ∷ []) ∙ sym (take_more paths i path less)) (notes_more told (take i paths) path old new were adds)

up_to : (r : Refusal) (told : Told) (before : List (List ℕ)) (path old new : List ℕ) → AreNotes told before old → AddsNotes (Err r) told path old new → NotesUpTo r told before path new
up_to (refusal.BadFile at n) told before path old new were adds = notes_more told before path old new were adds
up_to refusal.NoMemory told before path old new were adds = tt
up_to refusal.Usage told before path old new were adds = λ files is. adds ∙ were files is
up_to (refusal.BadCatalogue byte) told before path old new were adds = λ files is. adds ∙ were files is
up_to refusal.Read told before path old new were adds = λ files is. adds ∙ were files is
up_to refusal.Write told before path old new were adds = λ files is. adds ∙ were files is
up_to refusal.CatalogueBytes told before path old new were adds = λ files is. adds ∙ were files is
up_to refusal.FileBytes told before path old new were adds = λ files is. adds ∙ were files is
up_to (refusal.BadText at n) told before path old new were adds = λ files is. adds ∙ were files is
up_to (refusal.NoCommonType at n) told before path old new were adds = λ files is. adds ∙ were files is
up_to refusal.ItemNesting told before path old new were adds = λ files is. adds ∙ were files is

failed_after : (path : List ℕ) (old mid new : FilesState) → mid.told ≡ old.told → old.faults ≤ mid.faults → IsMissing mid path ⊎ Rose mid.faults new.faults → IsMissing old path ⊎ Rose old.faults new.faults
failed_after path old mid new told later (inl why) = inl (why.0, sym told ∙ why.1, why.2)
failed_after path old mid new told later (inr rose) = inr (omega (arith, later, rose))

table_after : (r : Refusal) (path : List ℕ) (old mid new : FilesState) → mid.told ≡ old.told → old.faults ≤ mid.faults → RefusesTable r path mid new → RefusesTable r path old new
table_after (refusal.BadFile at n) path old mid new told later why = (why.0, λ files is. why.1 files (told ∙ is))
table_after refusal.Read path old mid new told later why = failed_after path old mid new told later why
table_after refusal.FileBytes path old mid new told later why = λ files is. why files (told ∙ is)
table_after r path old mid new told later why = why

values_after : (r : Refusal) (path : List ℕ) (old mid new : FilesState) → mid.told ≡ old.told → old.faults ≤ mid.faults → RefusesValues r path mid new → RefusesValues r path old new
values_after (refusal.BadText at n) path old mid new told later why = (why.0, λ files is. why.1 files (told ∙ is))
values_after (refusal.NoCommonType at n) path old mid new told later why = (why.0, λ files is. why.1 files (told ∙ is))
values_after refusal.ItemNesting path old mid new told later why = λ files is. why files (told ∙ is)
values_after refusal.FileBytes path old mid new told later why = λ files is. why files (told ∙ is)
values_after refusal.Read path old mid new told later why = failed_after path old mid new told later why
values_after r path old mid new told later why = why

-- what a later call refuses is refused over all calls
pub refuses_after : (table : Bool) (r : Refusal) (path : List ℕ) (old mid new : FilesState) → mid.told ≡ old.told → old.faults ≤ mid.faults → RefusesAs table r path mid new → RefusesAs table r path old new
refuses_after true r path old mid new told later why = table_after r path old mid new told later why
refuses_after false r path old mid new told later why = values_after r path old mid new told later why

never : (table : Bool) (r : Refusal) (path : List ℕ) (old new : FilesState) → (RefusesTable r path old new → ⊥) → (RefusesValues r path old new → ⊥) → RefusesAs table r path old new → ⊥
never true r path old new no_table no_values why = no_table why
never false r path old new no_table no_values why = no_values why

stopped : (r : Refusal) (sql : Bool) (paths : List (List ℕ)) (old new : FilesState) (notes : List ℕ) → StopsAt sql paths r old new notes → WhyNoCatalogue r sql paths old new notes
stopped (refusal.BadFile at n) sql paths old new notes s = s
stopped refusal.Read sql paths old new notes s = s
stopped refusal.FileBytes sql paths old new notes s = s
stopped (refusal.BadText at n) sql paths old new notes s = s
stopped (refusal.NoCommonType at n) sql paths old new notes s = s
stopped refusal.ItemNesting sql paths old new notes s = s
stopped refusal.NoMemory sql paths old new notes s = tt
stopped refusal.Usage sql paths old new notes s = absurd (never (is_table s.path) refusal.Usage s.path old new (λ h. h) (λ h. h) s.why)
stopped (refusal.BadCatalogue byte) sql paths old new notes s = absurd (never (is_table s.path) (refusal.BadCatalogue byte) s.path old new (λ h. h) (λ h. h) s.why)
stopped refusal.Write sql paths old new notes s = absurd (never (is_table s.path) refusal.Write s.path old new (λ h. h) (λ h. h) s.why)
stopped refusal.CatalogueBytes sql paths old new notes s = absurd (never (is_table s.path) refusal.CatalogueBytes s.path old new (λ h. h) (λ h. h) s.why)

parts : (paths : List (List ℕ)) (i : ℕ) → paths ≡ take i paths ++ drop i paths
parts paths i = grind (arith, common_steps)

split_at : (paths : List (List ℕ)) (i : ℕ) (path : List ℕ) → i < length paths → path ≡ get_or paths i path → paths ≡ take i paths ++ path ∷ drop (i + 1) paths
split_at paths i path less at = parts paths i ∙ ap (λ ps. take i paths ++ ps) (drop_more paths i path less ∙ (λ j. sym at j ∷ drop (i + 1) paths))

-- the file of this place is the first that is wrong
pub stops_there : (r : Refusal) (sql : Bool) (paths : List (List ℕ)) (i : ℕ) (path : List ℕ) (entries : List Entry) (first old new : FilesState) (before after : List ℕ)
    → i < length paths → path ≡ get_or paths i path → old.told ≡ first.told → first.faults ≤ old.faults → ListAll sql first.told (take i paths) entries
    → AreNotes first.told (take i paths) before → RefusesFile r path old new → AddsNotes (Err r) old.told path before after → WhyNoCatalogue r sql paths first new after
stops_there r sql paths i path entries first old new before after less at told later all were why adds = stopped r sql paths first new after (record {
  before = take i paths;
  path = path;
  after = drop (i + 1) paths;
  split = split_at paths i path less at;
  entries = entries;
  good = all.each;
  why = refuses_after (is_table path) r path first old new told later why;
  noted = up_to r first.told (take i paths) path before after were (subst (λ t. AddsNotes (Err r) t path before after) told adds);
})

-- files without a catalogue have no page
pub no_page : (r : Refusal) (words : List (List ℕ)) (old new : FilesState) (notes : List ℕ) → IsTrue (are_files (paths_of words))
    → WhyNoCatalogue r (wants_sql words) (paths_of words) old new notes → WhyNoPage r words old new notes
no_page (refusal.BadFile at n) words old new notes tables why = (tables, why)
no_page refusal.Read words old new notes tables why = (tables, why)
no_page refusal.FileBytes words old new notes tables why = (tables, why)
no_page (refusal.BadText at n) words old new notes tables why = (tables, why)
no_page (refusal.NoCommonType at n) words old new notes tables why = (tables, why)
no_page refusal.ItemNesting words old new notes tables why = (tables, why)
no_page (refusal.BadCatalogue byte) words old new notes tables why = (tables, why)
no_page refusal.CatalogueBytes words old new notes tables why = (tables, why)
no_page refusal.NoMemory words old new notes tables why = tt
no_page refusal.Usage words old new notes tables why = absurd why
no_page refusal.Write words old new notes tables why = absurd why
