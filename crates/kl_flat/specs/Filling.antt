-- Columns are filled, a record at a time. No public contract cites this.
use Rattle.std.specs.Prelude.{◌≡◌, ◌+◌, ◌<◌, ◌≤◌, ℕ, Bool, true, false, List, Some, None, All}
use Rattle.kl_flat.specs.Cells.{cell_value}
use Rattle.kl_flat.specs.Held.{columns_in, fields_at, height, row_at, type_of, value_at}
use Rattle.kl_flat.specs.Table.{Record, row_in}
use Rattle.kl_flat.specs.declared.held.Cells.{Cells}
use Rattle.kl_flat.specs.declared.held.Column.{Column}

-- the value of one more cell stands behind the others
pub record Gains (cell : List ℕ) (old new : Cells) : Type 0 where
  pub gained : cell_value cell (type_of old) ≡ Some (value_at new (height old))
  pub kind : type_of new ≡ type_of old
  pub grown : height new ≡ height old + 1
  pub before : (i : ℕ) → i < height old → value_at new i ≡ value_at old i

-- the cell has no value of the column's type
abbrev pub Refuses : List ℕ → Cells → Cells → Type 0
Refuses cell old new = (cell_value cell (type_of old) ≡ None) × (new ≡ old)

-- the columns hold so many rows
abbrev pub AreLevel : ℕ → List Column → Type 0
AreLevel n columns = All (λ c. height c.cells ≡ n) columns

-- the first rows are as they were
pub record KeepsRows (n : ℕ) (old new : List Column) : Type 0 where
  pub columns : columns_in new ≡ columns_in old
  pub before : (i : ℕ) → i < n → fields_at new i ≡ fields_at old i
  pub filled : All (λ c. n ≤ height c.cells) new

-- a good record stands behind the first rows, and a bad one is no row
pub record AddsRow (header entry : Record) (n : ℕ) (old new : List Column) : Type 0 where
  pub keeps : KeepsRows n old new
  pub level : AreLevel (n + 1) new
  pub row : row_in (columns_in old) header entry ≡ Some (row_at new n)

pub record LacksRow (header entry : Record) (n : ℕ) (old new : List Column) : Type 0 where
  pub keeps : KeepsRows n old new
  pub row : row_in (columns_in old) header entry ≡ None

abbrev pub AddsRecord : Bool → Record → Record → List Column → List Column → Type 0
AddsRecord true header entry old new = (n : ℕ) → AreLevel n old → AddsRow header entry n old new
AddsRecord false header entry old new = (n : ℕ) → AreLevel n old → LacksRow header entry n old new
