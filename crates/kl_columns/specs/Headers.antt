-- Which columns of a table programs can name.
use Rattle.std.specs.Prelude.{ℕ, ◌+◌, Bool, ◌&&◌, ◌==◌, List, [], ◌∷◌, ◌++◌, Option, Some, codes, cond, decimal, filter, fold, length, map}
use Rattle.std.specs.BTreeSet.{insert_key}
use Rattle.kl_base.specs.Fields.{bytes_cmp}
use Rattle.kl_base.specs.Word.{is_word}
use Rattle.csv.specs.Reading.{default_config, records, strip_bom}
use Rattle.kl_type.specs.declared.ground.Ty.TheVariants as ty
use Rattle.kl_flat.specs.Table.{Columns, Record, bad_in, times}
use Rattle.kl_columns.specs.Writing.{quoted}

-- a word that stands there once
abbrev pub is_nameable : Record → List ℕ → Bool
is_nameable header cell = is_word cell && (times cell header == 1)

abbrev pub nameable : Record → List (List ℕ)
nameable header = filter (is_nameable header) header

-- labels in their order
abbrev pub rising : List (List ℕ) → List (List ℕ)
rising labels = fold (insert_key bytes_cmp) [] labels

-- those of a table, whose first record is its header
abbrev pub table_labels : List Record → List (List ℕ)
table_labels [] = []
table_labels (header ∷ rs) = rising (nameable header)

-- what is told of the column of a number: why it is left out, if it is
abbrev pub note : List ℕ → Record → ℕ → List ℕ → List ℕ
note path header n cell =
    cond (is_nameable header cell) []
    (path ++ codes ": column " ++ decimal n ++ codes " is left out: " ++ quoted cell
    ++ cond (is_word cell) (codes " stands twice\n") (codes " is no word\n"))

-- what is told of columns, from a number on
abbrev pub notes_from : List ℕ → Record → ℕ → List (List ℕ) → List ℕ
notes_from path header n [] = []
notes_from path header n (cell ∷ cells) = note path header n cell ++ notes_from path header (n + 1) cells

abbrev pub notes_of : List ℕ → Record → List ℕ
notes_of path header = notes_from path header 1 header

-- what is told of the columns of a table's bytes
abbrev pub header_notes : List ℕ → List Record → List ℕ
header_notes path [] = []
header_notes path (header ∷ rs) = notes_of path header

abbrev pub table_notes : List ℕ → List ℕ → List ℕ
table_notes path bytes = header_notes path (records default_config (strip_bom bytes))

abbrev pub text_columns : List (List ℕ) → Columns
text_columns labels = map (λ l. (l, ty.Str)) labels

-- The number of the first record that is bad as texts under the headers that programs can name. Where there is no such header,
-- it is the header's.
abbrev pub first_bad : List Record → Option ℕ
first_bad rs = cond (length (table_labels rs) == 0) (Some 0) (bad_in (text_columns (table_labels rs)) rs)
