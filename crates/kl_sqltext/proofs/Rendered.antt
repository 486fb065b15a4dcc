-- The text of a statement reads as that statement, and as no other.
use Rattle.std.proofs.Common.{◌≡◌, ℕ, ℤ, zero, suc, pos, negsuc, ◌-◌, ◌^◌, ◌<◌, ◌≤◌, Bool, true, false, List, [], ◌∷◌, ◌++◌, length, inl, inr, refl, sym, ap, ◌∙◌, append_assoc, arith, codes, decimal, FitsSigned}
use Rattle.std.proofs.lemmas.Fmt.{decimal_is_IsNumeral}
use Rattle.std.specs.Int.{w64}
use Rattle.std.specs.Fmt.{signed_decimal}
use Rattle.std.specs.List.{AllByRecursion}
use Rattle.kl_phrase.specs.Words.{Behind, Many, Upto}
use Rattle.kl_value.specs.declared.Value.{Value, Value-F, out-Value, roll-Value, roll-out-Value}
use Rattle.kl_value.specs.declared.Value.TheVariants as value
use Rattle.kl_sqltext.specs.declared.ast.SqlRight.{SqlRight}
use Rattle.kl_sqltext.specs.declared.ast.SqlRight.TheVariants as right
use Rattle.kl_sqltext.specs.declared.ast.SqlTest.{SqlTest}
use Rattle.kl_sqltext.specs.declared.ast.Spj.{Spj}
use Rattle.kl_sqltext.specs.Words.{ThisByte, AnyBlanks, SomeBlanks, QuotedWord, Natural, Number, doubled, most_table}
use Rattle.kl_sqltext.specs.Grammar.{Name, SqlColumn, FromWhere, Ref, AColumn, Plain, Truth, AfterOp, ATest, Conjunction, AWhere, ATable, MoreTables, AFrom, MoreColumn, Distinct, op_text}
use Rattle.kl_sqltext.specs.Reading.{SqlReads}
use Rattle.kl_sqltext.specs.Written.{quoted, ref_text, column_text, literal_layer, right_text, test_text, table_text, more_columns, columns_text, more_tables, tables_text, more_tests, where_text, distinct_text, statement_text, IsWord, BaseLayer, IsRight, CanRender, StoredLayer, IsStoredRight, IsStoredSpj}

mark : (n c : ℕ) → ThisByte c n tt (c ∷ [])
mark n c = (c, refl, refl)

space : (n : ℕ) → SomeBlanks n tt (32 ∷ [])
space n = (32 ∷ [], [], refl, (32, refl, refl), refl)

named : (n : ℕ) (l : Name) → IsWord l → QuotedWord n l (quoted l)
named n l h = (34 ∷ [], l ++ 34 ∷ [], refl, mark n 34, (l, 34 ∷ [], refl, (refl, h), mark 0 34))

ref : (n i : ℕ) (l : Name) → i ≤ most_table → IsWord l → Ref n (i, l) (ref_text i l)
ref n i l le h = (116 ∷ decimal i, 46 ∷ quoted l, refl, (116 ∷ [], decimal i, refl, mark n 116, (refl, le)), ([], 46 ∷ quoted l, refl, refl, (46 ∷ [], quoted l, refl, mark 0 46, ([], quoted l, refl, refl, named 0 l h))))

column : (n : ℕ) (c : SqlColumn) → c.0 ≤ most_table → IsWord c.1 → IsWord c.2 → AColumn n c (column_text c)
column n c le h k = (((c.0, c.1), c.2), refl, (ref_text c.0 c.1, 32 ∷ 65 ∷ 83 ∷ 32 ∷ quoted c.2, refl, ref n c.0 c.1 le h, (32 ∷ [], 65 ∷ 83 ∷ 32 ∷ quoted c.2, refl, space 0, (65 ∷ 83 ∷ [], 32 ∷ quoted c.2, refl, refl, (32 ∷ [], quoted c.2, refl, space 0, named 0 c.2 k)))))

natural : (n limit k : ℕ) → k ≤ limit → k < 2 ^ 64 → Natural limit n k (decimal k)
natural n limit k le small = let num = decimal_is_IsNumeral k small in (num.0, sym num.1, le)

number : (n : ℕ) (z : ℤ) → FitsSigned w64 z → Number n z (signed_decimal z)
number n (pos k) fits = let small = fits.sfits in inr (k, refl, natural n (2 ^ 63 - 1) k (omega arith) (omega arith))
number n (negsuc k) fits = let small = fits.sfits in inl (suc k, refl, (45 ∷ [], decimal (suc k), refl, mark n 45, ([], decimal (suc k), refl, refl, natural 0 (2 ^ 63) (suc k) (omega arith) (omega arith))))

-- ---- tests

-- behind the space that follows a comparison
plain : (n : ℕ) (r : SqlRight) (ts : List ℕ) → ((m : ℕ) → Plain m r ts) → AfterOp n r (32 ∷ ts)
plain n r ts h = inl (32 ∷ [], ts, refl, refl, h 0)

truth : (n : ℕ) (r : SqlRight) (ts : List ℕ) → ((m : ℕ) → Truth m r ts) → AfterOp n r (32 ∷ ts)
truth n r ts h = inr (32 ∷ [], ts, refl, space n, h 0)

literal : (n : ℕ) (v : Value) (x : Value-F Value) → out-Value v ≡ x → BaseLayer x → StoredLayer x → AfterOp n (right.Lit v) (32 ∷ literal_layer x)
literal n v (Value-F.Bool true) e b s = truth n (right.Lit v) (literal_layer (Value-F.Bool true)) (λ m. inl (tt, ap right.Lit (sym (roll-out-Value v) ∙ ap roll-Value e ∙ value.rolls-Bool true), refl))
literal n v (Value-F.Bool false) e b s = truth n (right.Lit v) (literal_layer (Value-F.Bool false)) (λ m. inr (tt, ap right.Lit (sym (roll-out-Value v) ∙ ap roll-Value e ∙ value.rolls-Bool false), refl))
literal n v (Value-F.Int z) e b s = plain n (right.Lit v) (signed_decimal z) (λ m. inr (inl (z, ap right.Lit (sym (roll-out-Value v) ∙ ap roll-Value e ∙ value.rolls-Int z), number m z s)))
literal n v (Value-F.Text t) e b s = plain n (right.Lit v) (39 ∷ (doubled t ++ 39 ∷ [])) (λ m. inr (inr (t, ap right.Lit (sym (roll-out-Value v) ∙ ap roll-Value e ∙ value.rolls-Text t), refl)))
literal n v _ e b s = absurd b

right_side : (n k : ℕ) (r : SqlRight) → k ≤ 10000 → IsRight k r → IsStoredRight r → AfterOp n r (32 ∷ right_text r)
right_side n k (right.Col i l) le lt h = plain n (right.Col i l) (ref_text i l) (λ m. inl ((i, l), refl, ref m i l (omega (arith, le, lt)) h))
right_side n k (right.Lit v) le b s = literal n v (out-Value v) refl b s

test : (n k : ℕ) (q : SqlTest) → k ≤ 10000 → q.table < k → IsRight k q.right → IsWord q.column → IsStoredRight q.right → ATest n q (test_text q)
test n k q le lt r w s = (
  ((q.table, q.column), (q.op, q.right)),
  refl,
  (
    ref_text q.table q.column,
    32 ∷ (op_text q.op ++ 32 ∷ right_text q.right),
    refl,
    ref n q.table q.column (omega (arith, le, lt)) w,
    (32 ∷ op_text q.op, 32 ∷ right_text q.right, refl, (32 ∷ [], op_text q.op, refl, refl, refl), right_side 0 k q.right le r s),
  ),
)

-- ---- the tests, the tables and the columns

module _ (k : ℕ) (few : k ≤ 10000) where
  abbrev Fine : SqlTest → Type 0
  Fine q = ((q.table < k) × IsRight k q.right) × (IsWord q.column × IsStoredRight q.right)

  and_tests : (qs : List SqlTest) (n : ℕ) → AllByRecursion Fine qs → Many (Behind Conjunction (Behind SomeBlanks ATest)) n qs (more_tests qs)
  and_tests [] n h = refl
  and_tests (q ∷ qs) n h =
      (codes " AND " ++ test_text q, more_tests qs, refl, (32 ∷ codes "AND", 32 ∷ test_text q, refl, (32 ∷ [], codes "AND", refl, space 0, refl), (32 ∷ [], test_text q, refl, space 0, test 0 k q few h.0.0.0 h.0.0.1 h.0.1.0 h.0.1.1)), and_tests qs _ h.1)

  where_is : (n : ℕ) (q : SqlTest) (qs : List SqlTest) → AllByRecursion Fine (q ∷ qs) → Behind SomeBlanks AWhere n ([], q ∷ qs) (where_text (q ∷ qs))
  where_is n q qs h = (
    32 ∷ [],
    codes "WHERE " ++ (test_text q ++ more_tests qs),
    refl,
    space 0,
    (q ∷ qs, refl, (codes "WHERE", 32 ∷ (test_text q ++ more_tests qs), refl, refl, ((q, qs), refl, (32 ∷ test_text q, more_tests qs, refl, (32 ∷ [], test_text q, refl, space 0, test 0 k q few h.0.0.0 h.0.0.1 h.0.1.0 h.0.1.1), and_tests qs _ h.1)))),
  )

  table : (n i : ℕ) (l : Name) → IsWord l → ATable i n l (table_text i l)
  table n i l h = (quoted l, 32 ∷ 116 ∷ decimal i, refl, named 0 l h, (32 ∷ [], 116 ∷ decimal i, refl, refl, refl))

  more_is : (m n i : ℕ) (ls : List Name) (qs : List SqlTest) → length ls ≤ m → AllByRecursion IsWord ls → AllByRecursion Fine qs → MoreTables m i n (ls, qs) (more_tables i ls ++ where_text qs)
  unfolding MoreTables
  more_is zero n i [] [] le w h = inr (refl, refl)
  more_is zero n i [] (q ∷ qs) le w h = inl (where_is n q qs h)
  more_is zero n i (l ∷ ls) qs le w h = absurd (omega arith)
  more_is (suc m) n i [] [] le w h = inr (refl, refl)
  more_is (suc m) n i [] (q ∷ qs) le w h = inl (inr (where_is n q qs h))
  more_is (suc m) n i (l ∷ ls) qs le w h =
      let whole : more_tables i (l ∷ ls) ++ where_text qs ≡ 44 ∷ 32 ∷ (table_text i l ++ (more_tables (suc i) ls ++ where_text qs)) = ap (λ z. 44 ∷ 32 ∷ z) (append_assoc (table_text i l) (more_tables (suc i) ls) (where_text qs)) in
      inl (inl (
        [],
        more_tables i (l ∷ ls) ++ where_text qs,
        refl,
        refl,
        (
          44 ∷ [],
          32 ∷ (table_text i l ++ (more_tables (suc i) ls ++ where_text qs)),
          whole,
          mark 0 44,
          (
            32 ∷ [],
            table_text i l ++ (more_tables (suc i) ls ++ where_text qs),
            refl,
            refl,
            ((l, (ls, qs)), refl, (table_text i l, more_tables (suc i) ls ++ where_text qs, refl, table 0 i l w.0, more_is m _ (suc i) ls qs (omega arith) w.1 h)),
          ),
        ),
      ))

  from_is : (n : ℕ) (l : Name) (ls : List Name) (qs : List SqlTest) → length ls ≤ most_table → AllByRecursion IsWord (l ∷ ls) → AllByRecursion Fine qs → Behind SomeBlanks AFrom n (l ∷ ls, qs) (codes " FROM " ++ (tables_text (l ∷ ls) ++ where_text qs))
  from_is n l ls qs le w h =
      let whole : tables_text (l ∷ ls) ++ where_text qs ≡ table_text 0 l ++ (more_tables 1 ls ++ where_text qs) = append_assoc (table_text 0 l) (more_tables 1 ls) (where_text qs) in (
        32 ∷ [],
        codes "FROM " ++ (tables_text (l ∷ ls) ++ where_text qs),
        refl,
        space 0,
        (
          codes "FROM",
          32 ∷ (tables_text (l ∷ ls) ++ where_text qs),
          refl,
          refl,
          (
            32 ∷ [],
            tables_text (l ∷ ls) ++ where_text qs,
            refl,
            space 0,
            ((l, (ls, qs)), refl, (table_text 0 l, more_tables 1 ls ++ where_text qs, whole, table 0 0 l w.0, more_is most_table _ 1 ls qs le w.1 h)),
          ),
        ),
      )

  abbrev Shown : SqlColumn → Type 0
  Shown c = (c.0 < k) × (IsWord c.1 × IsWord c.2)

  columns_are : (cs : List SqlColumn) (n : ℕ) (rest : FromWhere) (ts : List ℕ) → AllByRecursion Shown cs → ((m : ℕ) → Behind SomeBlanks AFrom m rest ts) → Upto (Behind AnyBlanks MoreColumn) (Behind SomeBlanks AFrom) n (cs, rest) (more_columns cs ++ ts)
  columns_are [] n rest ts h from = from n
  columns_are (c ∷ cs) n rest ts h from = (
    codes ", " ++ column_text c,
    more_columns cs ++ ts,
    append_assoc (codes ", " ++ column_text c) (more_columns cs) ts,
    ([], codes ", " ++ column_text c, refl, refl, (44 ∷ [], 32 ∷ column_text c, refl, mark 0 44, (32 ∷ [], column_text c, refl, refl, column 0 c (omega (arith, h.0.0, few)) h.0.1.0 h.0.1.1))),
    columns_are cs _ rest ts h.1 from,
  )

both_all : {A : Type 0} (P Q : A → Type 0) (xs : List A) → AllByRecursion P xs → AllByRecursion Q xs → AllByRecursion (λ x. P x × Q x) xs
both_all P Q [] h k = tt
both_all P Q (x ∷ xs) h k = ((h.0, k.0), both_all P Q xs h.1 k.1)

distinct : (n : ℕ) (b : Bool) → Distinct n b (distinct_text b)
distinct n true = inl (tt, refl, (codes "DISTINCT", 32 ∷ [], refl, refl, space 0))
distinct n false = inr (refl, refl)

pub rendered : (s : Spj) → CanRender s → IsStoredSpj s → SqlReads (statement_text s) s
rendered s can stored = go s.distinct s.columns s.tables s.tests can.columns can.tables can.few (both_all (λ c. c.0 < length s.tables) (λ c. IsWord c.1 × IsWord c.2) s.columns can.of_tables stored.columns) stored.tables
    (both_all (λ q. (q.table < length s.tables) × IsRight (length s.tables) q.right) (λ q. IsWord q.column × IsStoredRight q.right) s.tests can.tested stored.tests)
  where
    go : (d : Bool) (cs : List SqlColumn) (ls : List Name) (qs : List SqlTest) → 0 < length cs → 0 < length ls → (few : length ls ≤ 10000) → AllByRecursion (Shown (length ls) few) cs → AllByRecursion IsWord ls → AllByRecursion (Fine (length ls) few) qs
        → SqlReads (codes "SELECT " ++ (distinct_text d ++ (columns_text cs ++ (codes " FROM " ++ (tables_text ls ++ where_text qs))))) (record { distinct = d; columns = cs; tables = ls; tests = qs })
    go d [] ls qs some any few shown words fine = absurd (omega arith)
    go d (c ∷ cs) [] qs some any few shown words fine = absurd (omega arith)
    go d (c ∷ cs) (l ∷ ls) qs some any few shown words fine =
        let rest : List ℕ = codes " FROM " ++ (tables_text (l ∷ ls) ++ where_text qs) in
        let body : List ℕ = columns_text (c ∷ cs) ++ rest in (
          (d, (c, (cs, (l ∷ ls, qs)))),
          refl,
          (
            codes "SELECT",
            32 ∷ (distinct_text d ++ body),
            refl,
            refl,
            (
              32 ∷ [],
              distinct_text d ++ body,
              refl,
              space 0,
              (
                distinct_text d,
                body,
                refl,
                distinct 0 d,
                (
                  column_text c,
                  more_columns cs ++ rest,
                  append_assoc (column_text c) (more_columns cs) rest,
                  column 0 c (omega (arith, shown.0.0, few)) shown.0.1.0 shown.0.1.1,
                  columns_are (length (l ∷ ls)) few cs _ (l ∷ ls, qs) rest shown.1 (λ m. from_is (length (l ∷ ls)) few m l ls qs (omega arith) words fine),
                ),
              ),
            ),
          ),
        )
