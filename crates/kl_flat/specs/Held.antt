-- What the columns of a table hold.
use Rattle.std.specs.Prelude.{ℕ, false, pos, List, map, length, slice_index, slice_index_or, slice_range}
use Rattle.kl_value.specs.declared.Value.{Value}
use Rattle.kl_value.specs.declared.Value.TheVariants as value
use Rattle.kl_type.specs.declared.ground.Ty.{Ty}
use Rattle.kl_type.specs.declared.ground.Ty.TheVariants as ty
use Rattle.kl_outcome.specs.Outcome.{Name}
use Rattle.kl_flat.specs.Table.{Columns}
use Rattle.kl_flat.specs.Texts.{start}
use Rattle.kl_flat.specs.declared.held.Cells.{Cells}
use Rattle.kl_flat.specs.declared.held.Cells.TheVariants as cells
use Rattle.kl_flat.specs.declared.held.Column.{Column}
use Rattle.kl_flat.specs.declared.texts.Texts.{Texts}

abbrev pub text_at : Texts → ℕ → List ℕ
text_at t i = slice_range t.bytes.items (start t.ends.items i) (slice_index t.ends.items i)

abbrev pub type_of : Cells → Ty
type_of (cells.Bool truths) = ty.Bool
type_of (cells.Int numbers) = ty.Int
type_of (cells.Text texts) = ty.Str

-- how many rows have a cell there
abbrev pub height : Cells → ℕ
height (cells.Bool truths) = length truths.items
height (cells.Int numbers) = length numbers.items
height (cells.Text texts) = length texts.ends.items

-- the value of a row's cell, where the row has one
abbrev pub value_at : Cells → ℕ → Value
value_at (cells.Bool truths) i = value.Bool (slice_index_or truths.items i false)
value_at (cells.Int numbers) i = value.Int (slice_index_or numbers.items i (pos 0))
value_at (cells.Text texts) i = value.Text (text_at texts i)

abbrev pub labels_in : List Column → List Name
labels_in columns = map (λ c. c.label) columns

-- the labels and types of columns
abbrev pub columns_in : List Column → Columns
columns_in columns = map (λ c. (c.label, type_of c.cells)) columns

-- a row: the value that each column has there
abbrev pub fields_at : List Column → ℕ → List (Name × Value)
fields_at columns i = map (λ c. (c.label, value_at c.cells i)) columns

abbrev pub row_at : List Column → ℕ → Value
row_at columns i = value.Rec (fields_at columns i)
