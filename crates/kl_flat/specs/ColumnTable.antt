-- What a table in columns means.
use Rattle.std.specs.Prelude.{◌≡◌, ◌≤◌, ℕ, List, Some, None, map, slice_get}
use Rattle.std.specs.List.{range_with_len}
use Rattle.kl_base.specs.Fields.{field}
use Rattle.kl_value.specs.declared.Value.{Value}
use Rattle.kl_outcome.specs.Outcome.{Name}
use Rattle.kl_ask.specs.Asks.{shown}
use Rattle.kl_flat.specs.Asked.{kept_places}
use Rattle.kl_flat.specs.Held.{fields_at, height, labels_in, row_at, value_at}
use Rattle.kl_flat.specs.declared.held.Cells.{Cells}
use Rattle.kl_flat.specs.declared.column_table.ColumnTable.{ColumnTable}

-- its rows, in their order
abbrev pub rows_of : ColumnTable → List Value
rows_of t = map (row_at t.columns.items) (range_with_len 0 t.len)

-- the row of a number, from 0 on
abbrev pub IsRow : ColumnTable → ℕ → Value → Type 0
IsRow t at row = slice_get (rows_of t) at ≡ Some row

-- what is shown of a row with the columns at these places, where these are the places of kept labels
abbrev pub IsShown : ColumnTable → ℕ → List ℕ → Value → Type 0
IsShown t at places v = (keep : List Name) (row : Value) → places ≡ kept_places keep 0 (labels_in t.columns.items) → IsRow t at row
    → v ≡ shown keep row

-- these cells are the column with a label
pub record IsColumn (t : ColumnTable) (l : Name) (cells : Cells) : Type 0 where
  pub filled : t.len ≤ height cells
  pub values : (i : ℕ) → field l (fields_at t.columns.items i) ≡ Some (value_at cells i)

-- no column has a label
abbrev pub LacksColumn : ColumnTable → Name → Type 0
LacksColumn t l = (i : ℕ) → field l (fields_at t.columns.items i) ≡ None
