-- What a turn of a loop of the descent found, as the descent tells it.
-- Only contracts of what reads a part of a text cite this.
use Rattle.std.specs.Prelude.{◌<◌, length, ℕ, [], List, Option, Some, None, ◌⊎◌}
use Rattle.std.proofs.Common.{inl, inr}
use Rattle.kl_sqltext.specs.declared.statements.AfterTable.{AfterTable}
use Rattle.kl_sqltext.specs.declared.statements.AfterTable.TheVariants as after_table
use Rattle.kl_sqltext.specs.declared.reading.AfterColumn.{AfterColumn}
use Rattle.kl_sqltext.specs.declared.reading.AfterColumn.TheVariants as after_column
use Rattle.kl_sqltext.specs.Grammar.{Name, SqlColumn, FromWhere}

-- a byte of a text, or its end
abbrev pub text_turn : Option ℕ → ℕ ⊎ Unit {0}
text_turn (Some b) = inl b
text_turn None = inr (tt {0})

-- another table, or the tests
abbrev pub tables_turn : AfterTable → Name ⊎ FromWhere
tables_turn (after_table.Table l) = inl l
tables_turn (after_table.Tests tests) = inr ([], tests.items)

-- another column, or what stands behind them
abbrev pub statement_turn : AfterColumn → SqlColumn ⊎ FromWhere
statement_turn (after_column.Column c) = inl c
statement_turn (after_column.Tables tables tests) = inr (tables.items, tests.items)

abbrev pub shorter : List ℕ → AfterColumn → List ℕ → Type 0
shorter ts (after_column.Column c) r = length r < length ts
shorter ts (after_column.Tables tables tests) r = Unit {0}
