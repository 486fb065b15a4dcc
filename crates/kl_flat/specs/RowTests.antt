-- Tests of rows, over the columns that they look at.
use Rattle.std.specs.Prelude.{◌≡◌, ◌<◌, ℕ, Bool, false, List, All}
use Rattle.std.specs.List.{list_all}
use Rattle.kl_value.specs.Order.{compare}
use Rattle.kl_value.specs.declared.Value.{Value}
use Rattle.kl_ask.specs.Asks.{holds, passes}
use Rattle.kl_ask.specs.declared.ask.ColTest.{ColTest}
use Rattle.kl_flat.specs.ColumnTable.{IsRow}
use Rattle.kl_flat.specs.Held.{height, value_at}
use Rattle.kl_flat.specs.declared.column_table.ColumnTable.{ColumnTable}
use Rattle.kl_flat.specs.declared.row_tests.RowTest.{RowTest}
use Rattle.kl_flat.specs.declared.row_tests.Against.{Against}
use Rattle.kl_flat.specs.declared.row_tests.Against.TheVariants as against

abbrev pub right_at : Against → ℕ → Value
right_at (against.Cells cells) i = value_at cells.now i
right_at (against.Value value) i = value.now

-- what a test says of a row
abbrev pub passes_at : RowTest → ℕ → Bool
passes_at t i = holds t.op (compare (value_at t.left.now i) (right_at t.right i))

abbrev pub RightHas : ℕ → Against → Type 0
RightHas i (against.Cells cells) = i < height cells.now
RightHas i (against.Value value) = Unit {0}

-- the columns that a test looks at have a cell of the row
abbrev pub HasCells : ℕ → RowTest → Type 0
HasCells i t = (i < height t.left.now) × RightHas i t.right

-- the tests of rows say of each row what these tests of its values say
pub record SaySame (table : ColumnTable) (tests : List ColTest) (found : List RowTest) : Type 0 where
  pub cells : (i : ℕ) → i < table.len → All (HasCells i) found
  pub same : (i : ℕ) (row : Value) → IsRow table i row → list_all (passes row) tests ≡ list_all (λ t. passes_at t i) found

-- no row passes these tests
abbrev pub NonePasses : ColumnTable → List ColTest → Type 0
NonePasses table tests = (i : ℕ) (row : Value) → IsRow table i row → list_all (passes row) tests ≡ false
