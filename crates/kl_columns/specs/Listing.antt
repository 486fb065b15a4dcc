-- What the catalogue of some tables says of them.
use Rattle.std.specs.Prelude.{◌≡◌, ℕ, Bool, false, true, List, [], ◌∷◌, ◌++◌, map, Option, Some, None, ⊤}
use Rattle.std.specs.List.{flat_map}
use Rattle.kl_value.specs.declared.Value.{Value}
use Rattle.kl_value.specs.declared.Kind.TheVariants as kind
use Rattle.kl_type.specs.declared.ground.Ty.{Ty}
use Rattle.kl_type.specs.declared.ground.Ty.TheVariants as ty
use Rattle.kl_ask.specs.Driver.{DriverKind, Rows, Stored, stored_by}
use Rattle.kl_catalogue.specs.Reading.{IsCatalogue}
use Rattle.kl_catalogue.specs.declared.reading.Entry.{Entry}
use Rattle.kl_flat.specs.Columns.{is_table_type}
use Rattle.kl_flat.specs.Flat.{flat_kind}
use Rattle.kl_flat.specs.Table.{bad_record, table_records}
use Rattle.kl_exchange.specs.FileItems.{most_read}
use Rattle.kl_nested.specs.Nested.{nested_kind}
use Rattle.kl_sources.specs.Sources.{is_taken}
use Rattle.kl_sqlserve.specs.Server.{is_list, sql_kind}
use Rattle.kl_columns.specs.Headers.{first_bad}
use Rattle.kl_columns.specs.Narrowing.{IsNarrow}
use Rattle.kl_columns.specs.Values.{IsItemType}
use Rattle.kl_columns.specs.Words.{is_table}
use Rattle.kl_columns.specs.Writing.{entry_line}
use Rattle.kl_columns.specs.declared.table.Found.{Found}
use Rattle.kl_columns.specs.declared.table.Found.TheVariants as found

-- the bytes of each path, where files tell them, with none at a path that is missing
abbrev pub Told : Type 0
Told = Option (List ℕ → Option (List ℕ))

-- the driver that is to read a table, at the server of SQL or not, or a file of values
abbrev pub driver_by : Bool → Bool → Told → DriverKind
driver_by true true told = sql_kind told
driver_by true false told = flat_kind told
driver_by false sql told = nested_kind most_read told

abbrev pub driver_for : Bool → Told → List ℕ → DriverKind
driver_for sql told path = driver_by (is_table path) sql told

-- where the driver tells its contents, what it has at the locator as a source of this type are rows
abbrev pub HasRows : DriverKind → List ℕ → Ty → Type 0
HasRows kind locator ty = (stored : Stored) → stored_by kind.stored locator ty ≡ Some stored
    → (rows : List Value) × (stored ≡ Rows rows)

-- each column of a table has the narrowest type of its cells; the items of a file of values, which make a bag, have the type that
-- the file states, or else the least that they have in common
abbrev pub IsNarrowAs : Bool → List ℕ → Ty → Type 0
IsNarrowAs true bytes t = IsNarrow bytes t
IsNarrowAs false bytes t = (item : Ty) × (t ≡ ty.Coll kind.Bag item) × IsItemType bytes item

-- the same of the file at a path, where files tell their bytes
abbrev pub IsNarrowAt : Bool → Told → List ℕ → Ty → Type 0
IsNarrowAt table told path ty = (files : List ℕ → Option (List ℕ)) (bytes : List ℕ) → told ≡ Some files → files path ≡ Some bytes
    → IsNarrowAs table bytes ty

-- the type suits the driver, which has rows of it there, and is no wider than need be
pub record HasTypeAs (table sql : Bool) (told : Told) (path : List ℕ) (ty : Ty) : Type 0 where
  pub suits : (driver_by table sql told).suits ty ≡ true
  pub rows : HasRows (driver_by table sql told) path ty
  pub narrow : IsNarrowAt table told path ty

abbrev pub HasType : Bool → Told → List ℕ → Ty → Type 0
HasType sql told path ty = HasTypeAs (is_table path) sql told path ty

-- the entry says of a file where it is, the driver that reads it, and a type
pub record Lists (sql : Bool) (told : Told) (path : List ℕ) (entry : Entry) : Type 0 where
  pub locator : entry.locator ≡ path
  pub driver : entry.driver ≡ (driver_for sql told path).name
  pub ty : HasType sql told path entry.ty

-- one entry for each file, in their order
abbrev pub ListEach : Bool → Told → List (List ℕ) → List Entry → Type 0
ListEach sql told [] [] = ⊤
ListEach sql told (p ∷ ps) (e ∷ es) = Lists sql told p e × ListEach sql told ps es
ListEach sql told [] (e ∷ es) = ⊥
ListEach sql told (p ∷ ps) [] = ⊥

-- no entry has one of these names, that of an entry before it, or a primitive's
abbrev pub AreFree : List (List ℕ) → List Entry → Type 0
AreFree before [] = ⊤
AreFree before (e ∷ es) = (is_taken before e.name ≡ false) × AreFree (before ++ e.name ∷ []) es

pub record ListAll (sql : Bool) (told : Told) (paths : List (List ℕ)) (entries : List Entry) : Type 0 where
  pub each : ListEach sql told paths entries
  pub named : AreFree [] entries

-- the page is the text of entries that list these files, and reads back as them
pub record IsCatalogueOf (sql : Bool) (told : Told) (paths : List (List ℕ)) (page : List ℕ) : Type 0 where
  pub entries : List Entry
  pub text : page ≡ flat_map entry_line entries
  pub reads : IsCatalogue page entries
  pub lists : ListAll sql told paths entries

-- ---- for private functions alone

-- the entry of a table behind these entries
pub record IsEntryFor (entries : List Entry) (sql : Bool) (path : List ℕ) (ty : Ty) (entry : Entry) : Type 0 where
  pub locator : entry.locator ≡ path
  pub driver : (told : Told) → entry.driver ≡ (driver_for sql told path).name
  pub ty_is : entry.ty ≡ ty
  pub named : is_taken (map (λ e. e.name) entries) entry.name ≡ false

-- the type is that of a bag of rows, and no record of the bytes is bad
pub record IsReadAs (bytes : List ℕ) (ty : Ty) : Type 0 where
  pub suits : is_table_type ty ≡ true
  pub unordered : is_list ty ≡ false
  pub good : bad_record bytes ty ≡ None
  pub narrow : IsNarrow bytes ty

abbrev pub Reads : List ℕ → Found → Type 0
Reads bytes (found.Type ty) = IsReadAs bytes ty
Reads bytes (found.Bad n) = first_bad (table_records bytes) ≡ Some n
