-- What is told of a table by its first record, and which record of it is bad.
use Rattle.std.proofs.Common.{◌≡◌, ◌<◌, suc, ℕ, arith, Bool, true, false, not, ◌&&◌, ◌==◌, List, [], ◌∷◌, ◌++◌, cond, length, map, Option, Some, None, nat_eq, Ok, refl, sym, ap, subst, ◌∙◌}
use Rattle.std.specs.List.{list_all, starts_with}
use Rattle.std.specs.Option.{option_map}
use Rattle.std.proofs.lemmas.Grind.{common_steps}
use Rattle.std.proofs.lemmas.Option.{same_Some}
use Rattle.csv.specs.Machine.{Read, next_record}
use Rattle.csv.specs.Reading.{default_config, records, strip_bom}
use Rattle.csv.specs.declared.parser.State.TheVariants as state
use Rattle.kl_ask.specs.Tables.{columns_of}
use Rattle.kl_type.specs.declared.ground.Ty.{Ty}
use Rattle.kl_type.specs.declared.ground.Ty.TheVariants as ty
use Rattle.kl_flat.specs.Columns.{is_base, is_table_type}
use Rattle.kl_flat.specs.Flat.{most_bytes}
use Rattle.kl_flat.specs.Table.{Columns, Record, bad_in, bad_record, table_records, two_marks}
use Rattle.kl_flat.specs.Records.{left_from}
use Rattle.kl_flat.proofs.Fuel.{left-none, left-some}
use Rattle.kl_outside.proofs.FileLemmas.{was_there}
use Rattle.kl_outside.specs.Files.{FilesState, ReadsWhole}
use Rattle.kl_outside.specs.declared.files.Whole.TheVariants.{Bytes, TooLong}
use Rattle.kl_columns.specs.Causes.{HasBytes, notes_at, notes_in}
use Rattle.kl_columns.specs.Headers.{first_bad, nameable, notes_of, rising, table_notes, header_notes, text_columns}
use Rattle.kl_columns.specs.Narrowing.{are_texts}
use Rattle.kl_columns.specs.Words.{is_table}

none_there : {A : Type 0} {x : A} → None ≡ Some x → ⊥
none_there h = cc

true_false : true ≡ false → ⊥
true_false h = cc

abbrev next : List ℕ → Option Read
next bytes = next_record default_config state.StartRecord [] [] (strip_bom bytes)

header_there : (bytes : List ℕ) (header : Record) → Some header ≡ option_map (λ p. p.0) (next bytes) → (rs : List Record) × (records default_config (strip_bom bytes) ≡ header ∷ rs)
header_there bytes header is = by (next bytes) refl is
  where
    by : (o : Option Read) → next bytes ≡ o → Some header ≡ option_map (λ p. p.0) o → (rs : List Record) × (records default_config (strip_bom bytes) ≡ header ∷ rs)
    by None at e = absurd (none_there (sym e))
    by (Some r) at e = (left_from r.1 r.2, left-some state.StartRecord (strip_bom bytes) r at ∙ ap (λ h. h ∷ left_from r.1 r.2) (sym (same_Some header r.0 e)))

no_header : (bytes : List ℕ) → None ≡ option_map (λ p. p.0) (next bytes) → records default_config (strip_bom bytes) ≡ []
no_header bytes is = by (next bytes) refl is
  where
    by : (o : Option Read) → next bytes ≡ o → None ≡ option_map (λ p. p.0) o → records default_config (strip_bom bytes) ≡ []
    by None at e = left-none state.StartRecord (strip_bom bytes) at
    by (Some r) at e = absurd (none_there e)

pub notes_there : (path bytes : List ℕ) (header : Record) → Some header ≡ option_map (λ p. p.0) (next bytes) → table_notes path bytes ≡ notes_of path header
notes_there path bytes header is = ap (header_notes path) (header_there bytes header is).1

pub no_notes : (path bytes : List ℕ) → None ≡ option_map (λ p. p.0) (next bytes) → table_notes path bytes ≡ []
no_notes path bytes is = ap (header_notes path) (no_header bytes is)

-- ---- columns of texts

pub all_texts : (labels : List (List ℕ)) → are_texts (text_columns labels) ≡ true
all_texts [] = refl
all_texts (l ∷ ls) = rw ty.outs-Str (all_texts ls)

pub same_labels : (labels : List (List ℕ)) → map (λ c. c.0) (text_columns labels) ≡ labels
same_labels [] = refl
same_labels (l ∷ ls) = ap (λ rest. l ∷ rest) (same_labels ls)

all_base : (labels : List (List ℕ)) → list_all (λ c. is_base c.1) (text_columns labels) ≡ true
all_base [] = refl
all_base (l ∷ ls) = rw ty.outs-Str (all_base ls)

abbrev has_columns : Columns → Bool
has_columns cs = not (length cs == 0) && list_all (λ c. is_base c.1) cs

not_none : (n : ℕ) → (suc n == 0) ≡ false
not_none n = grind (arith, common_steps)

named : (l : List ℕ) (ls : List (List ℕ)) → has_columns (text_columns (l ∷ ls)) ≡ true
named l ls = (λ j. not (not_none (length (text_columns ls)) j) && all_base (l ∷ ls) j)

none_named : (labels : List (List ℕ)) → has_columns (text_columns labels) ≡ false → labels ≡ []
none_named [] h = refl
none_named (l ∷ ls) h = absurd (true_false (sym (named l ls) ∙ h))

-- ---- the first bad record

abbrev bad_under : List (List ℕ) → List Record → Option ℕ
bad_under labels rs = cond (length labels == 0) (Some 0) (bad_in (text_columns labels) rs)

-- a table without records
pub bad_without : (bytes : List ℕ) → None ≡ option_map (λ p. p.0) (next bytes) → first_bad (table_records bytes) ≡ Some 0
bad_without bytes is = by (starts_with nat_eq bytes two_marks)
  where
    by : (b : Bool) → first_bad (cond b [] (records default_config (strip_bom bytes))) ≡ Some 0
    by true = refl
    by false = ap first_bad (no_header bytes is)

-- a table of whose columns none can be named
pub bad_header : (bytes : List ℕ) (header : Record) (texts : Ty) → Some header ≡ option_map (λ p. p.0) (next bytes) → columns_of texts ≡ text_columns (rising (nameable header))
    → is_table_type texts ≡ false → first_bad (table_records bytes) ≡ Some 0
bad_header bytes header texts is columns suits = by (starts_with nat_eq bytes two_marks)
  where
    none : rising (nameable header) ≡ []
    none = none_named (rising (nameable header)) (sym (ap has_columns columns) ∙ suits)

    found : (rs : List Record) × (records default_config (strip_bom bytes) ≡ header ∷ rs)
    found = header_there bytes header is

    by : (b : Bool) → first_bad (cond b [] (records default_config (strip_bom bytes))) ≡ Some 0
    by true = refl
    by false = ap first_bad found.1 ∙ ap (λ ls. bad_under ls (header ∷ found.0)) none

-- a table with columns that can be named
pub bad_there : (bytes : List ℕ) (header : Record) (texts : Ty) (n : ℕ) → Some header ≡ option_map (λ p. p.0) (next bytes) → columns_of texts ≡ text_columns (rising (nameable header))
    → is_table_type texts ≡ true → bad_record bytes texts ≡ Some n → first_bad (table_records bytes) ≡ Some n
bad_there bytes header texts n is columns suits bad = by (starts_with nat_eq bytes two_marks) (sym (ap (λ cs. bad_in cs (table_records bytes)) columns) ∙ bad)
  where
    found : (rs : List Record) × (records default_config (strip_bom bytes) ≡ header ∷ rs)
    found = header_there bytes header is

    under : (labels : List (List ℕ)) → has_columns (text_columns labels) ≡ true → bad_under labels (header ∷ found.0) ≡ bad_in (text_columns labels) (header ∷ found.0)
    under [] t = absurd (true_false (sym t))
    under (l ∷ ls) t = ap (λ b. cond b (Some 0) (bad_in (text_columns (l ∷ ls)) (header ∷ found.0))) (not_none (length ls))

    by : (b : Bool) → bad_in (text_columns (rising (nameable header))) (cond b [] (records default_config (strip_bom bytes))) ≡ Some n → first_bad (cond b [] (records default_config (strip_bom bytes))) ≡ Some n
    by true e = e
    by false e = ap first_bad found.1 ∙ under (rising (nameable header)) (sym (ap has_columns columns) ∙ suits) ∙ sym (ap (bad_in (text_columns (rising (nameable header)))) found.1) ∙ e

-- ---- where files tell

pub bytes_there : (path bytes : List ℕ) (P : List ℕ → Type 0) (old new : FilesState) → ReadsWhole path most_bytes (Ok (Bytes bytes)) old new → P bytes → HasBytes old.told path P
bytes_there path bytes P old new reads holds files told =
    let found = was_there path most_bytes (Bytes bytes) old new files reads told in
    (found.0, found.1, subst P found.2.0 holds)

pub too_long : (path : List ℕ) (old new : FilesState) → ReadsWhole path most_bytes (Ok TooLong) old new → HasBytes old.told path (λ bytes. most_bytes < length bytes)
too_long path old new reads files told = was_there path most_bytes TooLong old new files reads told

pub notes_told : (path bytes before after : List ℕ) (old new : FilesState) → ReadsWhole path most_bytes (Ok (Bytes bytes)) old new → after ≡ before ++ table_notes path bytes
    → is_table path ≡ true → (files : List ℕ → Option (List ℕ)) → old.told ≡ Some files → after ≡ before ++ notes_at files path
notes_told path bytes before after old new reads adds table files told =
    let found = was_there path most_bytes (Bytes bytes) old new files reads told in
    adds ∙ ap (λ b. before ++ table_notes path b) found.2.0 ∙ ap (λ n. before ++ n) (sym (at found.1))
  where
    at : {b : List ℕ} → files path ≡ Some b → notes_at files path ≡ table_notes path b
    at e = ap (λ b. cond b (notes_in path (files path)) []) table ∙ ap (notes_in path) e
