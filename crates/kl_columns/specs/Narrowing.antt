-- The narrowest types of columns.
use Rattle.std.specs.Prelude.{◌≡◌, ℕ, Bool, List, [], ◌∷◌, cond, length, map, is_some, unwrap_or}
use Rattle.std.specs.List.{AllByRecursion, list_all, range_with_len, zip}
use Rattle.kl_base.specs.Fields.{field}
use Rattle.kl_type.specs.Parts.{is_string}
use Rattle.kl_type.specs.declared.ground.Ty.{Ty}
use Rattle.kl_type.specs.declared.ground.Ty.TheVariants as ty
use Rattle.kl_ask.specs.Tables.{columns_of}
use Rattle.kl_flat.specs.Cells.{cell_value}
use Rattle.kl_flat.specs.ColumnTable.{rows_of}
use Rattle.kl_flat.specs.Held.{text_at}
use Rattle.kl_flat.specs.Table.{Columns, Record, table_records}
use Rattle.kl_flat.specs.declared.column_table.ColumnTable.{ColumnTable}
use Rattle.kl_flat.specs.declared.held.Cells.{Cells}
use Rattle.kl_flat.specs.declared.held.Cells.TheVariants as cells
use Rattle.kl_columns.specs.Headers.{table_labels}

abbrev pub reads_as : Ty → List ℕ → Bool
reads_as t cell = is_some (cell_value cell t)

-- `int` where each cell reads as one, else `bool` where each does, else `string`
abbrev pub narrowest : List (List ℕ) → Ty
narrowest texts = cond (list_all (reads_as ty.Int) texts) ty.Int (cond (list_all (reads_as ty.Bool) texts) ty.Bool ty.Str)

-- the cells that records have under a label of the first
abbrev pub cells_under : List Record → List ℕ → List (List ℕ)
cells_under [] l = []
cells_under (header ∷ rs) l = map (λ r. unwrap_or (field l (zip header r)) []) rs

-- the columns are those that programs can name, and each has the narrowest type of its cells
pub record IsNarrow (bytes : List ℕ) (t : Ty) : Type 0 where
  pub labels : map (λ c. c.0) (columns_of t) ≡ table_labels (table_records bytes)
  pub types : AllByRecursion (λ c. c.1 ≡ narrowest (cells_under (table_records bytes) c.0)) (columns_of t)

-- ---- for private functions alone

abbrev pub are_texts : Columns → Bool
are_texts columns = list_all (λ c. is_string c.1) columns

-- the narrowest type of the first cells of a column that is held as texts
abbrev pub narrow_type : ℕ → Cells → Ty
narrow_type rows (cells.Text texts) = narrowest (map (text_at texts) (range_with_len 0 rows))
narrow_type rows (cells.Bool truths) = ty.Str
narrow_type rows (cells.Int numbers) = ty.Str

-- the columns of a table with their narrowest types
abbrev pub narrow_columns : ColumnTable → Columns
narrow_columns t = map (λ c. (c.label, narrow_type (length (rows_of t)) c.cells)) t.columns.items
