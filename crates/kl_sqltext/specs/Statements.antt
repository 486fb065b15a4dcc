-- The descent over bytes, for the grammar of statements.
-- No public contract cites this.
use Rattle.std.specs.Prelude.{ℕ, zero, suc, ◌-◌, ◌^◌, ◌==◌, ◌||◌, pos, Bool, false, List, [], ◌∷◌, codes, decimal, ◌⊎◌}
use Rattle.std.proofs.Common.{inl, inr}
use Rattle.kl_phrase.specs.Readers.{Reader, nothing, behind, before, both, made, pick, loop, parted}
use Rattle.kl_sqltext.specs.declared.ast.SqlOp.{SqlOp}
use Rattle.kl_sqltext.specs.declared.ast.SqlRight.{SqlRight}
use Rattle.kl_sqltext.specs.declared.ast.SqlTest.{SqlTest}
use Rattle.kl_sqltext.specs.declared.ast.Spj.{Spj}
use Rattle.kl_sqltext.specs.Words.{is_blank, minus, most_table}
use Rattle.kl_sqltext.specs.Grammar.{Name, SqlColumn, FromWhere, column_of, col_of, int_of, text_of, yes_of, no_of, test_of}
use Rattle.kl_sqltext.specs.Grammar.{no_table, put_first, always, spj_of}
use Rattle.kl_sqltext.specs.Descent.{is, mark, code, gap, space, named, is_digit, natural, place, text, an_op, gapped}

abbrev pub alias : Reader ℕ ℕ
alias = behind (mark 116) place

abbrev pub ref : Reader ℕ (ℕ × Name)
ref = both alias (behind gap (behind (mark 46) (behind gap named)))

-- the label as which a column is shown
abbrev pub shown_as : Reader ℕ Name
shown_as = behind space (behind (code (codes "AS")) (behind space named))

abbrev pub column : Reader ℕ SqlColumn
column = made column_of (both ref shown_as)

abbrev pub number : Reader ℕ SqlRight
number = made int_of (pick (is 45) (made minus (behind (mark 45) (behind gap (natural (2 ^ 63))))) (made pos (natural (2 ^ 63 - 1))))

abbrev pub begins_number : ℕ → Bool
begins_number t = t == 45 || is_digit t

abbrev pub plain : Reader ℕ SqlRight
plain = pick (is 116) (made col_of ref) (pick begins_number number (made text_of text))

abbrev pub begins_plain : ℕ → Bool
begins_plain t = t == 116 || (begins_number t || t == 39)

abbrev pub truth : Reader ℕ SqlRight
truth = pick (is 84) (made yes_of (code (codes "TRUE"))) (made no_of (code (codes "FALSE")))

abbrev pub after_op : Reader ℕ SqlRight
after_op = gapped begins_plain plain truth

abbrev pub comparison : Reader ℕ (SqlOp × SqlRight)
comparison = both (behind gap an_op) after_op

abbrev pub test : Reader ℕ SqlTest
test = made test_of (both ref comparison)

abbrev pub conjunction : Reader ℕ (Unit {0})
conjunction = behind space (code (codes "AND"))

abbrev pub tests : Reader ℕ (List SqlTest)
tests = parted is_blank conjunction (behind space test)

abbrev pub a_where : Reader ℕ FromWhere
a_where = made no_table (behind (code (codes "WHERE")) tests)

abbrev pub own_alias : ℕ → Reader ℕ (Unit {0})
own_alias i = behind gap (code (116 ∷ decimal i))

abbrev pub table : ℕ → Reader ℕ Name
table i = before named (own_alias i)

abbrev pub goes_further : ℕ → Bool
goes_further t = is_blank t || t == 44

-- the tests, where no table is left
abbrev pub last_turn : Reader ℕ FromWhere
last_turn = pick is_blank (behind space a_where) (nothing ([], []))

-- another table, of this number, or the tests
abbrev pub table_turn : ℕ → Reader ℕ (Name ⊎ FromWhere)
table_turn i = pick goes_further (gapped (is 44) (made inl (behind (mark 44) (behind gap (table i)))) (made inr a_where))
    (nothing (inr ([], [])))

unfoldable pub more : ℕ → ℕ → Reader ℕ FromWhere
more zero i = last_turn
more (suc k) i =
    pick goes_further (gapped (is 44) (behind (mark 44) (behind gap (made put_first (both (table i) (more k (suc i)))))) a_where)
    (nothing ([], []))

-- the tables, up to the end
abbrev pub tables : Reader ℕ FromWhere
tables = made put_first (both (table 0) (more most_table 1))

abbrev pub a_from : Reader ℕ FromWhere
a_from = behind (code (codes "FROM")) (behind space tables)

abbrev pub more_column : Reader ℕ SqlColumn
more_column = behind (mark 44) (behind gap column)

-- another column, or what stands behind them
abbrev pub columns_turn : Reader ℕ (SqlColumn ⊎ FromWhere)
columns_turn = gapped (is 44) (made inl more_column) (made inr a_from)

abbrev pub distinct : Reader ℕ Bool
distinct = pick (is 68) (made always (before (code (codes "DISTINCT")) space)) (nothing false)

abbrev pub statement : Reader ℕ Spj
statement = made spj_of (behind (code (codes "SELECT")) (behind space (both distinct (both column (loop columns_turn)))))

-- the columns, up to the end
abbrev pub columns_of : SqlColumn × (List SqlColumn × FromWhere) → List SqlColumn × FromWhere
columns_of x = (x.0 ∷ x.1.0, x.1.1)

abbrev pub columns : Reader ℕ (List SqlColumn × FromWhere)
columns = made columns_of (both column (loop columns_turn))
