-- What the bytes of a table mean.
use Rattle.std.specs.Prelude.{Bool, ◌==◌, ℕ, ◌+◌, List, [], ◌∷◌, map, length, Option, Some, None, cond, nat_eq}
use Rattle.std.specs.Cmp.Lexicographic.{pointwise}
use Rattle.std.specs.List.{list_all, starts_with, zip}
use Rattle.std.specs.Option.{option_map, option_and_then}
use Rattle.csv.specs.Reading.{default_config, records, strip_bom}
use Rattle.kl_base.specs.Fields.{field}
use Rattle.kl_value.specs.declared.Value.{Value}
use Rattle.kl_value.specs.declared.Value.TheVariants as value
use Rattle.kl_type.specs.declared.ground.Ty.{Ty}
use Rattle.kl_flat.specs.Cells.{cell_value}
use Rattle.kl_ask.specs.Tables.{columns_of}

-- the fields of a record
abbrev pub Record : Type 0
Record = List (List ℕ)

abbrev pub Columns : Type 0
Columns = List (List ℕ × Ty)

-- the byte order mark of UTF-8, twice
abbrev pub two_marks : List ℕ
two_marks = 0xEF ∷ 0xBB ∷ 0xBF ∷ 0xEF ∷ 0xBB ∷ 0xBF ∷ []

-- the records behind an optional byte order mark; behind a second one there are none
abbrev pub table_records : List ℕ → List Record
table_records bytes = cond (starts_with nat_eq bytes two_marks) [] (records default_config (strip_bom bytes))

-- how often a label stands in a header
abbrev pub times : List ℕ → Record → ℕ
times l [] = 0
times l (h ∷ hs) = cond (pointwise nat_eq l h) 1 0 + times l hs

-- each column's label stands in the header exactly once
abbrev pub is_header : Columns → Record → Bool
is_header columns header = list_all (λ c. times c.0 header == 1) columns

-- all of these, if each is there
abbrev pub all_of : {A : Type 0} → List (Option A) → Option (List A)
all_of [] = Some []
all_of (None ∷ os) = None
all_of (Some x ∷ os) = option_map (λ xs. x ∷ xs) (all_of os)

-- the field that a row has in a column: the value of the cell under its label
abbrev pub part_in : List (List ℕ × List ℕ) → List ℕ × Ty → Option (List ℕ × Value)
part_in cells c = option_map (λ v. (c.0, v)) (option_and_then (λ cell. cell_value cell c.1) (field c.0 cells))

-- the row that a record is under a header; none where the record is bad
abbrev pub row_in : Columns → Record → Record → Option Value
row_in columns header entry =
    cond (length entry == length header) (option_map value.Rec (all_of (map (part_in (zip header entry)) columns))) None

-- those before the first that is missing, and its number
abbrev pub front_of : {A : Type 0} → List (Option A) → List A
front_of [] = []
front_of (None ∷ os) = []
front_of (Some x ∷ os) = x ∷ front_of os

abbrev pub first_missing : {A : Type 0} → ℕ → List (Option A) → Option ℕ
first_missing n [] = None
first_missing n (None ∷ os) = Some n
first_missing n (Some x ∷ os) = first_missing (n + 1) os

-- the rows under the header before the first bad record
abbrev pub rows_in : Columns → List Record → List Value
rows_in columns [] = []
rows_in columns (header ∷ rs) = cond (is_header columns header) (front_of (map (row_in columns header) rs)) []

-- the number of the first bad record, the header being 0
abbrev pub bad_in : Columns → List Record → Option ℕ
bad_in columns [] = Some 0
bad_in columns (header ∷ rs) = cond (is_header columns header) (first_missing 1 (map (row_in columns header) rs)) (Some 0)

abbrev pub table_rows : List ℕ → Ty → List Value
table_rows bytes ty = rows_in (columns_of ty) (table_records bytes)

abbrev pub bad_record : List ℕ → Ty → Option ℕ
bad_record bytes ty = bad_in (columns_of ty) (table_records bytes)
