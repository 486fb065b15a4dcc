-- The text of a statement, and which statements have one.
use Rattle.std.specs.Prelude.{ℕ, ◌<◌, ◌≤◌, suc, Bool, true, false, IsTrue, FitsSigned, List, [], ◌∷◌, ◌++◌, length, codes, decimal, ⊤}
use Rattle.std.specs.Int.{w64}
use Rattle.std.specs.Fmt.{signed_decimal}
use Rattle.std.specs.List.{AllByRecursion, flat_map}
use Rattle.kl_base.specs.Word.{is_word}
use Rattle.kl_value.specs.declared.Value.{Value, Value-F, out-Value}
use Rattle.kl_sqltext.specs.declared.ast.SqlRight.{SqlRight}
use Rattle.kl_sqltext.specs.declared.ast.SqlRight.TheVariants as right
use Rattle.kl_sqltext.specs.declared.ast.SqlTest.{SqlTest}
use Rattle.kl_sqltext.specs.declared.ast.Spj.{Spj}
use Rattle.kl_sqltext.specs.Words.{doubled}
use Rattle.kl_sqltext.specs.Grammar.{Name, SqlColumn, op_text}

-- ---- the text

abbrev pub quoted : Name → List ℕ
quoted l = codes "\"" ++ (l ++ codes "\"")

abbrev pub ref_text : ℕ → Name → List ℕ
ref_text i l = codes "t" ++ (decimal i ++ (codes "." ++ quoted l))

abbrev pub column_text : SqlColumn → List ℕ
column_text c = ref_text c.0 c.1 ++ (codes " AS " ++ quoted c.2)

abbrev pub literal_layer : Value-F Value → List ℕ
literal_layer (Value-F.Bool true) = codes "TRUE"
literal_layer (Value-F.Bool false) = codes "FALSE"
literal_layer (Value-F.Int n) = signed_decimal n
literal_layer (Value-F.Text s) = codes "'" ++ (doubled s ++ codes "'")
literal_layer _ = []

abbrev pub literal_text : Value → List ℕ
literal_text v = literal_layer (out-Value v)

abbrev pub right_text : SqlRight → List ℕ
right_text (right.Col i l) = ref_text i l
right_text (right.Lit v) = literal_text v

abbrev pub test_text : SqlTest → List ℕ
test_text q = ref_text q.table q.column ++ (codes " " ++ (op_text q.op ++ (codes " " ++ right_text q.right)))

-- the tables from the number i on, each with its alias
abbrev pub table_text : ℕ → Name → List ℕ
table_text i l = quoted l ++ (codes " t" ++ decimal i)

abbrev pub more_columns : List SqlColumn → List ℕ
more_columns = flat_map (λ c. codes ", " ++ column_text c)

abbrev pub columns_text : List SqlColumn → List ℕ
columns_text [] = []
columns_text (c ∷ cs) = column_text c ++ more_columns cs

abbrev pub more_tables : ℕ → List Name → List ℕ
more_tables i [] = []
more_tables i (l ∷ ls) = codes ", " ++ (table_text i l ++ more_tables (suc i) ls)

abbrev pub tables_text : List Name → List ℕ
tables_text [] = []
tables_text (l ∷ ls) = table_text 0 l ++ more_tables 1 ls

abbrev pub more_tests : List SqlTest → List ℕ
more_tests = flat_map (λ q. codes " AND " ++ test_text q)

abbrev pub where_text : List SqlTest → List ℕ
where_text [] = []
where_text (q ∷ qs) = codes " WHERE " ++ (test_text q ++ more_tests qs)

abbrev pub distinct_text : Bool → List ℕ
distinct_text true = codes "DISTINCT "
distinct_text false = []

-- one space between tokens, but none before a comma, around a dot, and inside names, aliases and literals
abbrev pub statement_text : Spj → List ℕ
statement_text s = codes "SELECT " ++ (distinct_text s.distinct ++
    (columns_text s.columns ++ (codes " FROM " ++ (tables_text s.tables ++ where_text s.tests))))

-- ---- which statements have one

abbrev pub IsWord : Name → Type 0
IsWord l = IsTrue (is_word l)

-- a base value; a text has any bytes
abbrev pub BaseLayer : Value-F Value → Type 0
BaseLayer (Value-F.Bool b) = ⊤
BaseLayer (Value-F.Int n) = ⊤
BaseLayer (Value-F.Text s) = ⊤
BaseLayer _ = ⊥

-- a right side: a column of one of so many tables, or a base literal
abbrev pub IsRight : ℕ → SqlRight → Type 0
IsRight k (right.Col i l) = i < k
IsRight k (right.Lit v) = BaseLayer (out-Value v)

-- 1 to 10,000 tables, one column or more, and no number but those of tables
pub record CanRender (s : Spj) : Type 0 where
  pub columns : 0 < length s.columns
  pub tables : 0 < length s.tables
  pub few : length s.tables ≤ 10000
  pub of_tables : AllByRecursion (λ c. c.0 < length s.tables) s.columns
  pub tested : AllByRecursion (λ q. (q.table < length s.tables) × IsRight (length s.tables) q.right) s.tests

-- ---- what the types of the program keep: labels are words, and integers are within 64 bits

abbrev pub StoredLayer : Value-F Value → Type 0
StoredLayer (Value-F.Int n) = FitsSigned w64 n
StoredLayer _ = ⊤

abbrev pub IsStoredLiteral : Value → Type 0
IsStoredLiteral v = StoredLayer (out-Value v)

abbrev pub IsStoredRight : SqlRight → Type 0
IsStoredRight (right.Col i l) = IsWord l
IsStoredRight (right.Lit v) = IsStoredLiteral v

abbrev pub IsStoredColumn : SqlColumn → Type 0
IsStoredColumn c = IsWord c.1 × IsWord c.2

abbrev pub IsStoredTest : SqlTest → Type 0
IsStoredTest q = IsWord q.column × IsStoredRight q.right

pub record IsStoredSpj (s : Spj) : Type 0 where
  pub columns : AllByRecursion IsStoredColumn s.columns
  pub tables : AllByRecursion IsWord s.tables
  pub tests : AllByRecursion IsStoredTest s.tests
