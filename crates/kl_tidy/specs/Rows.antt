-- What is printed of the records of a table, and what is wrong with one.
use Rattle.std.specs.Prelude.{◌≡◌, ◌+◌, ◌==◌, ℕ, List, [], ◌∷◌, ◌++◌, cond, length, map, Option, Some, None, Result, Ok, Err}
use Rattle.std.specs.List.{list_any}
use Rattle.std.specs.Option.{option_or}
use Rattle.std.specs.Result.{result_map_both}
use Rattle.csv.specs.Records.{Row, fields_of}
use Rattle.kl_base.specs.Fields.{field, labels_of}
use Rattle.kl_flat.specs.Table.{Record}
use Rattle.kl_tidy.specs.Cells.{cell_printed, filled}
use Rattle.kl_tidy.specs.Naming.{is_one}
use Rattle.kl_tidy.specs.declared.columns.Column.{Column}
use Rattle.kl_tidy.specs.declared.columns.Wrong.{Wrong}
use Rattle.kl_tidy.specs.declared.columns.Wrong.TheVariants as wrong
use Rattle.kl_tidy.specs.declared.words.Command.{Command}

-- a column of this name, with what a command says of its cells
abbrev pub column_of : Command → List ℕ → Column
column_of command name = record { name = name; missing = field name command.missing; decimals = field name command.scale }

-- the first of some columns that none of these names is
abbrev pub first_unknown : List (List ℕ) → List (List ℕ) → Option (List ℕ)
first_unknown names [] = None
first_unknown names (c ∷ cs) = cond (list_any (is_one c) names) (first_unknown names cs) (Some c)

-- the first column that a command names and that is none of these
abbrev pub unknown_column : List (List ℕ) → Command → Option (List ℕ)
unknown_column names command = option_or (first_unknown names (labels_of command.missing)) (first_unknown names (labels_of command.scale))

-- one more before others
abbrev pub and_then : {A : Type 0} → A → Result (List A) Wrong → Result (List A) Wrong
and_then x (Ok xs) = Ok (x ∷ xs)
and_then x (Err w) = Err w

-- a cell of the record of a number that is no number of at most so many decimals
abbrev pub wrong_cell : Column → ℕ → List ℕ → Wrong
wrong_cell column n cell = wrong.Cell n column.name (filled column.missing cell)

-- cells under columns as they are printed, or the first that is wrong
abbrev pub cells_printed : List Column → ℕ → Record → Result Record Wrong
cells_printed [] n cells = Ok []
cells_printed (column ∷ columns) n [] = Ok []
cells_printed (column ∷ columns) n (cell ∷ cells) =
    elim (cell_printed column cell) [ None ↦ Err (wrong_cell column n cell) | Some x ↦ and_then x (cells_printed columns n cells) ]

-- a record has one cell for each column
abbrev pub record_printed : List Column → ℕ → Record → Result Record Wrong
record_printed columns n row = cond (length row == length columns) (cells_printed columns n row) (Err (wrong.Record n))

-- records as they are printed, from a number on, or what is wrong first
abbrev pub records_printed : List Column → ℕ → List Record → Result (List Record) Wrong
records_printed columns n [] = Ok []
records_printed columns n (row ∷ rows) =
    elim (record_printed columns n row) [ Err w ↦ Err w | Ok r ↦ and_then r (records_printed columns (n + 1) rows) ]

abbrev pub unless_unknown : Option (List ℕ) → Result (List Record) Wrong → Result (List Record) Wrong
unless_unknown None printed = printed
unless_unknown (Some column) printed = Err (wrong.Column column)

-- the records below a header of these names as they are printed, or what is wrong first with the table
abbrev pub rows_printed : Command → List (List ℕ) → List Record → Result (List Record) Wrong
rows_printed command names rows =
    cond (length names == 0) (Err (wrong.Record 0))
    (unless_unknown (unknown_column names command) (records_printed (map (column_of command) names) 1 rows))

-- ---- for private functions alone

abbrev pub IsRecordOf : List Column → ℕ → Record → Result Row Wrong → Type 0
IsRecordOf columns n row made = result_map_both fields_of (λ w. w) made ≡ record_printed columns n row
