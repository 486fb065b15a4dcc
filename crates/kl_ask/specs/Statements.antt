-- Statements of SQL over tables with types.
use Rattle.std.specs.Prelude.{◌≡◌, ℕ, map, Option, Some, None, IsSome, nat_eq, slice_get}
use Rattle.std.specs.Cmp.Lexicographic.{pointwise}
use Rattle.std.specs.List.{AllByRecursion, IsDistinct}
use Rattle.kl_type.specs.Ground.{Ground, rec, row_by}
use Rattle.kl_outcome.specs.Outcome.{Name}
use Rattle.kl_outcome.specs.Typed.{Inhabits}
use Rattle.kl_ask.specs.Asks.{column}
use Rattle.kl_sqltext.specs.Meaning.{shown_columns}
use Rattle.kl_sqltext.specs.declared.ast.Spj.{Spj}
use Rattle.kl_sqltext.specs.declared.ast.SqlTest.{SqlTest}
use Rattle.kl_sqltext.specs.declared.ast.SqlRight.{SqlRight}
use Rattle.kl_sqltext.specs.declared.ast.SqlRight.TheVariants as right

-- the type of the rows of each table, by its name; None where there is no such table
abbrev pub RowTypes : Type 0
RowTypes = Name → Option Ground

abbrev pub type_of_table : RowTypes → Option Name → Option Ground
type_of_table types (Some l) = types l
type_of_table types None = None

abbrev pub column_in : Option Ground → Name → Option Ground
column_in (Some t) l = column l t
column_in None l = None

-- the type of a column of the table of a number
abbrev pub cell_type : RowTypes → Spj → ℕ → Name → Option Ground
cell_type types q i l = column_in (type_of_table types (slice_get q.tables i)) l

abbrev pub SqlSideFits : RowTypes → Spj → Ground → SqlRight → Type 0
SqlSideFits types q t (right.Col i l) = cell_type types q i l ≡ Some t
SqlSideFits types q t (right.Lit v) = Inhabits t v

-- a test fits: its column is there, and both sides have one type
abbrev pub SqlTestFits : RowTypes → Spj → SqlTest → Type 0
SqlTestFits types q test = (t : Ground) × (cell_type types q test.table test.column ≡ Some t) × SqlSideFits types q t test.right

-- The tables of a statement are there, its columns are there, no two are shown under one label, and its tests fit.
pub record SqlFits (types : RowTypes) (q : Spj) : Type 0 where
  pub tables : AllByRecursion (λ l. IsSome (types l)) q.tables
  pub columns : AllByRecursion (λ c. IsSome (cell_type types q c.0 c.1)) q.columns
  pub apart : IsDistinct (pointwise nat_eq) (map (λ c. c.2) q.columns)
  pub tests : AllByRecursion (SqlTestFits types q) q.tests

-- the type of the rows that a statement shows: its columns, by rising label
abbrev pub sql_type : RowTypes → Spj → Ground
sql_type types q = rec (row_by (λ t. t) (shown_columns (cell_type types q) q.columns))
