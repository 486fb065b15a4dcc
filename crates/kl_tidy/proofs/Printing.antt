-- Records as they are printed, one cell and one record after another.
use Rattle.std.proofs.Common.{◌≡◌, ◌<◌, ◌+◌, ◌==◌, ℕ, suc, Bool, true, false, cond, List, [], ◌∷◌, ◌++◌, drop, length, get_or, map, Option, Some, None, Result, Ok, Err, refl, sym, ap, subst, ◌∙◌, arith, append_assoc, append-nil}
use Rattle.std.specs.Prelude.{⊤}
use Rattle.std.specs.List.{AllByRecursion, flat_map}
use Rattle.std.proofs.lemmas.Bool.Decides.{nat_tests}
use Rattle.csv.specs.Records.{Row, field_at, fields_of}
use Rattle.csv.specs.Writing.{default_writer, row_text}
use Rattle.kl_base.proofs.Places.{drop_at}
use Rattle.kl_flat.specs.Table.{Record}
use Rattle.kl_tidy.specs.Cells.{AddsCell, cell_printed}
use Rattle.kl_tidy.specs.Rows.{and_then, cells_printed, record_printed, records_printed, wrong_cell}
use Rattle.kl_tidy.specs.Tables.{table_text}
use Rattle.kl_tidy.specs.declared.columns.Column.{Column}
use Rattle.kl_tidy.specs.declared.columns.Wrong.{Wrong}
use Rattle.kl_tidy.specs.declared.columns.Wrong.TheVariants as wrong
use Rattle.kl_tidy.proofs.Noted.{drop_field}

-- some before others
abbrev pub behind : {A : Type 0} → List A → Result (List A) Wrong → Result (List A) Wrong
behind done (Ok xs) = Ok (done ++ xs)
behind done (Err w) = Err w

abbrev as_well : Record → Result Record Wrong
as_well cells = Ok cells

abbrev pub as_wrong : Wrong → Result Record Wrong
as_wrong w = Err w

abbrev pub none_well : Wrong → Result (List Record) Wrong
none_well w = Err w

behind_one : {A : Type 0} (done : List A) (x : A) (r : Result (List A) Wrong) → behind done (and_then x r) ≡ behind (done ++ x ∷ []) r
behind_one done x (Ok xs) = ap (λ ys. Ok ys) (sym (append_assoc done (x ∷ []) xs))
behind_one done x (Err w) = refl

-- ---- cells

abbrev by_cell : Column → ℕ → List ℕ → Result Record Wrong → Option (List ℕ) → Result Record Wrong
by_cell column n cell more made = elim made [ None ↦ Err (wrong_cell column n cell) | Some x ↦ and_then x more ]

-- the cell of a place is the next
next_cell : (columns : List Column) (n : ℕ) (row : Record) (i : ℕ) (column : Column) (cell : List ℕ) → field_at row i ≡ Some cell → i < length columns → column ≡ get_or columns i column
    → cells_printed (drop i columns) n (drop i row) ≡ by_cell column n cell (cells_printed (drop (i + 1) columns) n (drop (i + 1) row)) (cell_printed column cell)
next_cell columns n row i column cell at less is = (λ j. cells_printed (drop_at columns i column less is j) n (drop_field row i cell at j))

well_there : (made : Option (List ℕ)) (old new : Record) (column : Column) (n : ℕ) (cell : List ℕ) (more : Result Record Wrong) → AddsCell made true old new
    → behind old (by_cell column n cell more made) ≡ behind new more
well_there (Some x) old new column n cell more adds = behind_one old x more ∙ ap (λ done. behind done more) (sym adds)
well_there None old new column n cell more adds = absurd adds

wrong_there : (made : Option (List ℕ)) (old new : Record) (column : Column) (n : ℕ) (cell : List ℕ) (more : Result Record Wrong) → AddsCell made false old new
    → behind old (by_cell column n cell more made) ≡ as_wrong (wrong_cell column n cell)
wrong_there (Some x) old new column n cell more adds = absurd adds
wrong_there None old new column n cell more adds = refl

-- one cell more
pub cell_more : (columns : List Column) (n : ℕ) (row : Record) (i : ℕ) (column : Column) (cell : List ℕ) (old new : Record) → field_at row i ≡ Some cell → i < length columns → column ≡ get_or columns i column
    → AddsCell (cell_printed column cell) true old new → cells_printed columns n row ≡ behind old (cells_printed (drop i columns) n (drop i row))
    → cells_printed columns n row ≡ behind new (cells_printed (drop (i + 1) columns) n (drop (i + 1) row))
cell_more columns n row i column cell old new at less is adds so_far =
    so_far ∙ ap (behind old) (next_cell columns n row i column cell at less is)
    ∙ well_there (cell_printed column cell) old new column n cell (cells_printed (drop (i + 1) columns) n (drop (i + 1) row)) adds

-- a cell that is wrong
pub cell_wrong : (columns : List Column) (n : ℕ) (row : Record) (i : ℕ) (column : Column) (cell : List ℕ) (old new : Record) → field_at row i ≡ Some cell → i < length columns → column ≡ get_or columns i column
    → AddsCell (cell_printed column cell) false old new → cells_printed columns n row ≡ behind old (cells_printed (drop i columns) n (drop i row))
    → cells_printed columns n row ≡ Err (wrong_cell column n cell)
cell_wrong columns n row i column cell old new at less is adds so_far =
    so_far ∙ ap (behind old) (next_cell columns n row i column cell at less is)
    ∙ wrong_there (cell_printed column cell) old new column n cell (cells_printed (drop (i + 1) columns) n (drop (i + 1) row)) adds

-- a record of as many cells as columns
pub record_level : (columns : List Column) (n : ℕ) (row : Record) (made : Result Record Wrong) → length row ≡ length columns → cells_printed columns n row ≡ made → made ≡ record_printed columns n row
record_level columns n row made level is = sym is ∙ ap (λ b. cond b (cells_printed columns n row) (Err (wrong.Record n))) (sym (same (length row) (length columns) level))
  where
    same : (a b : ℕ) → a ≡ b → (a == b) ≡ true
    same a b e = grind (arith, nat_tests, e)

-- ---- records

abbrev by_record : Result (List Record) Wrong → Result Record Wrong → Result (List Record) Wrong
by_record more made = elim made [ Err w ↦ Err w | Ok r ↦ and_then r more ]

next_record : (columns : List Column) (n : ℕ) (rows : List Row) (i : ℕ) (row : Row) → i < length rows → row ≡ get_or rows i row
    → records_printed columns n (map fields_of (drop i rows)) ≡ by_record (records_printed columns (n + 1) (map fields_of (drop (i + 1) rows))) (record_printed columns n (fields_of row))
next_record columns n rows i row less is = (λ j. records_printed columns n (map fields_of (drop_at rows i row less is j)))

-- one record more
pub record_more : (columns : List Column) (n : ℕ) (rows : List Row) (i : ℕ) (row : Row) (made : Record) (done : List Record) (all : Result (List Record) Wrong) → i < length rows → row ≡ get_or rows i row
    → as_well made ≡ record_printed columns n (fields_of row) → all ≡ behind done (records_printed columns n (map fields_of (drop i rows)))
    → all ≡ behind (done ++ made ∷ []) (records_printed columns (n + 1) (map fields_of (drop (i + 1) rows)))
record_more columns n rows i row made done all less is well so_far =
    so_far ∙ ap (behind done) (next_record columns n rows i row less is)
    ∙ (λ j. behind done (by_record (records_printed columns (n + 1) (map fields_of (drop (i + 1) rows))) (sym well j)))
    ∙ behind_one done made (records_printed columns (n + 1) (map fields_of (drop (i + 1) rows)))

-- the text of one record more
pub text_more : (names made : Record) (done : List Record) → table_text (names ∷ done) ++ row_text default_writer made ≡ table_text (names ∷ (done ++ made ∷ []))
text_more names made done = append_assoc (row_text default_writer names) (table_text done) (row_text default_writer made) ∙ ap (λ t. row_text default_writer names ++ t) (last done)
  where
    last : (rows : List Record) → table_text rows ++ row_text default_writer made ≡ table_text (rows ++ made ∷ [])
    last [] = sym (append-nil (row_text default_writer made))
    last (row ∷ rows) = append_assoc (row_text default_writer row) (table_text rows) (row_text default_writer made) ∙ ap (λ t. row_text default_writer row ++ t) (last rows)

-- ---- lengths

abbrev HasLength : ℕ → Result Record Wrong → Type 0
HasLength n (Ok cells) = length cells ≡ n
HasLength n (Err w) = ⊤

cells_level : (columns : List Column) (n : ℕ) (cells : Record) → length cells ≡ length columns → HasLength (length columns) (cells_printed columns n cells)
cells_level [] n cells level = refl
cells_level (column ∷ columns) n [] level = absurd (omega (arith, level))
cells_level (column ∷ columns) n (cell ∷ cells) level = by (cell_printed column cell) (cells_printed columns n cells) (cells_level columns n cells (omega (arith, level)))
  where
    by : (made : Option (List ℕ)) (more : Result Record Wrong) → HasLength (length columns) more → HasLength (suc (length columns)) (by_cell column n cell more made)
    by None more h = tt
    by (Some x) (Ok xs) h = ap suc h
    by (Some x) (Err w) h = tt

record_has : (columns : List Column) (n : ℕ) (row : Record) → HasLength (length columns) (record_printed columns n row)
record_has columns n row = by (length row == length columns) refl
  where
    by : (b : Bool) → (length row == length columns) ≡ b → HasLength (length columns) (cond b (cells_printed columns n row) (Err (wrong.Record n)))
    by true is = cells_level columns n row (grind (arith, nat_tests, is))
    by false is = tt

abbrev pub HaveLength : ℕ → Result (List Record) Wrong → Type 0
HaveLength n (Ok rows) = AllByRecursion (λ row. length row ≡ n) rows
HaveLength n (Err w) = ⊤

-- each record that is printed has a cell for each column
pub records_have : (columns : List Column) (n : ℕ) (rows : List Record) → HaveLength (length columns) (records_printed columns n rows)
records_have columns n [] = tt
records_have columns n (row ∷ rows) = by (record_printed columns n row) (records_printed columns (n + 1) rows) (record_has columns n row) (records_have columns (n + 1) rows)
  where
    by : (made : Result Record Wrong) (more : Result (List Record) Wrong) → HasLength (length columns) made → HaveLength (length columns) more → HaveLength (length columns) (by_record more made)
    by (Err w) more one all = tt
    by (Ok r) (Ok rs) one all = (one, all)
    by (Ok r) (Err w) one all = tt
