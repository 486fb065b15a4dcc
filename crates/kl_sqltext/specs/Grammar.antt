-- The grammar of statements: which bytes are which statement.
use Rattle.std.specs.Prelude.{◌≡◌, ℕ, ℤ, zero, suc, Bool, true, false, List, [], ◌∷◌, codes, decimal}
use Rattle.kl_phrase.specs.Words.{Phrase, Nothing, Then, Behind, Before, Upto, Made, Or, Parted}
use Rattle.kl_value.specs.declared.Value.TheVariants as value
use Rattle.kl_sqltext.specs.declared.ast.SqlOp.{SqlOp}
use Rattle.kl_sqltext.specs.declared.ast.SqlOp.TheVariants as op
use Rattle.kl_sqltext.specs.declared.ast.SqlRight.{SqlRight}
use Rattle.kl_sqltext.specs.declared.ast.SqlRight.TheVariants as right
use Rattle.kl_sqltext.specs.declared.ast.SqlTest.{SqlTest}
use Rattle.kl_sqltext.specs.declared.ast.Spj.{Spj}
use Rattle.kl_sqltext.specs.Words.{ThisByte, TheseBytes, AnyBlanks, SomeBlanks, QuotedWord, TableNumber, Number, AText, most_table}

abbrev pub Name : Type 0
Name = List ℕ

-- alias := "t" number
abbrev pub Alias : Phrase ℕ ℕ
Alias = Behind (ThisByte 116) TableNumber

-- ref := alias "." named
abbrev pub Ref : Phrase ℕ (ℕ × Name)
Ref = Then Alias (Behind AnyBlanks (Behind (ThisByte 46) (Behind AnyBlanks QuotedWord)))

-- column := ref "AS" named
abbrev pub SqlColumn : Type 0
SqlColumn = ℕ × Name × Name

abbrev pub column_of : (ℕ × Name) × Name → SqlColumn
column_of x = (x.0.0, x.0.1, x.1)

abbrev pub AColumn : Phrase ℕ SqlColumn
AColumn = Made column_of (Then Ref (Behind SomeBlanks (Behind (TheseBytes (codes "AS")) (Behind SomeBlanks QuotedWord))))

-- "=" | "<>" | "<" | "<=" | ">" | ">="
abbrev pub op_text : SqlOp → List ℕ
op_text op.Eq = codes "="
op_text op.Ne = codes "<>"
op_text op.Lt = codes "<"
op_text op.Le = codes "<="
op_text op.Gt = codes ">"
op_text op.Ge = codes ">="

abbrev pub AComparison : Phrase ℕ SqlOp
AComparison n o ts = ts ≡ op_text o

-- what a column is compared with: ref | number | text | "TRUE" | "FALSE"
abbrev pub col_of : ℕ × Name → SqlRight
col_of x = right.Col x.0 x.1

abbrev pub int_of : ℤ → SqlRight
int_of z = right.Lit (value.Int z)

abbrev pub text_of : List ℕ → SqlRight
text_of s = right.Lit (value.Text s)

abbrev pub yes_of : Unit {0} → SqlRight
yes_of x = right.Lit (value.Bool true)

abbrev pub no_of : Unit {0} → SqlRight
no_of x = right.Lit (value.Bool false)

abbrev pub Plain : Phrase ℕ SqlRight
Plain = Or (Made col_of Ref) (Or (Made int_of Number) (Made text_of AText))

abbrev pub Truth : Phrase ℕ SqlRight
Truth = Or (Made yes_of (TheseBytes (codes "TRUE"))) (Made no_of (TheseBytes (codes "FALSE")))

abbrev pub AfterOp : Phrase ℕ SqlRight
AfterOp = Or (Behind AnyBlanks Plain) (Behind SomeBlanks Truth)

-- test := ref op right
abbrev pub test_of : (ℕ × Name) × (SqlOp × SqlRight) → SqlTest
test_of x = record { table = x.0.0; column = x.0.1; op = x.1.0; right = x.1.1 }

abbrev pub ATest : Phrase ℕ SqlTest
ATest = Made test_of (Then Ref (Then (Behind AnyBlanks AComparison) AfterOp))

-- test { "AND" test }, each behind white space
abbrev pub Conjunction : Phrase ℕ (Unit {0})
Conjunction = Behind SomeBlanks (TheseBytes (codes "AND"))

abbrev pub Tests : Phrase ℕ (List SqlTest)
Tests = Parted Conjunction (Behind SomeBlanks ATest)

-- tables and tests
abbrev pub FromWhere : Type 0
FromWhere = List Name × List SqlTest

abbrev pub no_table : List SqlTest → FromWhere
no_table tests = ([], tests)

-- "WHERE" tests
abbrev pub AWhere : Phrase ℕ FromWhere
AWhere = Made no_table (Behind (TheseBytes (codes "WHERE")) Tests)

-- the table of this number: named, and its alias
abbrev pub ATable : ℕ → Phrase ℕ Name
ATable i = Before QuotedWord (Behind AnyBlanks (TheseBytes (116 ∷ decimal i)))

abbrev pub put_first : Name × FromWhere → FromWhere
put_first x = (x.0 ∷ x.1.0, x.1.1)

-- { "," table } [ "WHERE" tests ], with at most k tables, the first of them of the number i
unfoldable pub MoreTables : ℕ → ℕ → Phrase ℕ FromWhere
MoreTables zero i = Or (Behind SomeBlanks AWhere) (Nothing ([], []))
MoreTables (suc k) i =
    Or (Or (Behind AnyBlanks (Behind (ThisByte 44) (Behind AnyBlanks (Made put_first (Then (ATable i) (MoreTables k (suc i)))))))
    (Behind SomeBlanks AWhere))
    (Nothing ([], []))

-- "FROM" table { "," table } [ "WHERE" tests ], behind the columns
abbrev pub AFrom : Phrase ℕ FromWhere
AFrom = Behind (TheseBytes (codes "FROM")) (Behind SomeBlanks (Made put_first (Then (ATable 0) (MoreTables most_table 1))))

-- "," column
abbrev pub MoreColumn : Phrase ℕ SqlColumn
MoreColumn = Behind (ThisByte 44) (Behind AnyBlanks AColumn)

-- [ "DISTINCT" ]
abbrev pub always : Unit {0} → Bool
always x = true

abbrev pub Distinct : Phrase ℕ Bool
Distinct = Or (Made always (Before (TheseBytes (codes "DISTINCT")) SomeBlanks)) (Nothing false)

abbrev pub spj_of : Bool × (SqlColumn × (List SqlColumn × FromWhere)) → Spj
spj_of x = record { distinct = x.0; columns = x.1.0 ∷ x.1.1.0; tables = x.1.1.1.0; tests = x.1.1.1.1 }

-- "SELECT" [ "DISTINCT" ] column { "," column } "FROM" table { "," table } [ "WHERE" test { "AND" test } ]
abbrev pub Statement : Phrase ℕ Spj
Statement =
    Made spj_of (Behind (TheseBytes (codes "SELECT"))
    (Behind SomeBlanks (Then Distinct (Then AColumn (Upto (Behind AnyBlanks MoreColumn) (Behind SomeBlanks AFrom))))))
