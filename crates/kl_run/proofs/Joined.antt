-- What statements mean over tables whose rows are records, and of which type that is.
use Rattle.std.proofs.Common.{◌≡◌, ℕ, zero, suc, Bool, true, false, ◌&&◌, cond, List, [], ◌∷◌, map, filter, Option, Some, None, IsSome, is_some, slice_get, refl, sym, ap, ◌∙◌, subst}
use Rattle.std.specs.List.{AllByRecursion, list_all}
use Rattle.std.proofs.Math.Path.{fun_ext}
use Rattle.kl_base.proofs.Each.{all_map}
use Rattle.kl_value.specs.declared.Value.{Value}
use Rattle.kl_type.specs.Ground.{Ground, Row, rec, row_by, ground_of}
use Rattle.kl_outcome.specs.Outcome.{Name}
use Rattle.kl_outcome.specs.Typed.{Inhabits}
use Rattle.kl_ask.specs.Asks.{column, item_of}
use Rattle.kl_ask.specs.Driver.{Source, row_type}
use Rattle.kl_ask.specs.Statements.{RowTypes, type_of_table, column_in, cell_type, SqlSideFits, SqlTestFits, SqlFits, sql_type}
use Rattle.kl_sqltext.specs.Meaning.{tuples, tuple_passes, shown_columns, shown_tuple, without_repeats, selected, spj}
use Rattle.kl_sqltext.specs.Grammar.{SqlColumn}
use Rattle.kl_sqltext.specs.declared.ast.Spj.{Spj}
use Rattle.kl_sqltext.specs.declared.ast.SqlRight.{SqlRight}
use Rattle.kl_sqltext.specs.declared.ast.SqlRight.TheVariants as right
use Rattle.kl_ship.proofs.Filtered.{all_filtered}
use Rattle.kl_ship.proofs.Stated.{column_type, TupleOf, shown_inhabits}
use Rattle.kl_ship.proofs.Stating.{all_without, all_shown, all_tuples}
use Rattle.kl_scans.specs.Stage.{rows_there, or_none, table_rows, table_types, are_told, joined_by}

-- ---- types by name that agree on the tables of a statement

module _ (f g : RowTypes) where
  abbrev pub Agree : List Name → Type 0
  Agree ls = AllByRecursion (λ l. f l ≡ g l) ls

  table_same : (ls : List Name) → Agree ls → (i : ℕ) → type_of_table f (slice_get ls i) ≡ type_of_table g (slice_get ls i)
  table_same [] h i = refl
  table_same (l ∷ ls) h zero = h.0
  table_same (l ∷ ls) h (suc i) = table_same ls h.1 i

  tables_there : (ls : List Name) → Agree ls → AllByRecursion (λ l. IsSome (f l)) ls → AllByRecursion (λ l. IsSome (g l)) ls
  tables_there [] h t = tt
  tables_there (l ∷ ls) h t = (subst IsSome h.0 t.0, tables_there ls h.1 t.1)

  module _ (q : Spj) (agree : Agree q.tables) where
    cell_same : (i : ℕ) (l : Name) → cell_type f q i l ≡ cell_type g q i l
    cell_same i l = ap (λ o. column_in o l) (table_same q.tables agree i)

    side_same : (t : Ground) (r : SqlRight) → SqlSideFits f q t r → SqlSideFits g q t r
    side_same t (right.Col i l) h = sym (cell_same i l) ∙ h
    side_same t (right.Lit v) h = h

    pub fits_same : SqlFits f q → SqlFits g q
    fits_same h = record {
      tables = tables_there q.tables agree h.tables;
      columns = all_map (λ (c : SqlColumn). IsSome (cell_type f q c.0 c.1)) (λ (c : SqlColumn). IsSome (cell_type g q c.0 c.1)) q.columns (λ c s. subst IsSome (cell_same c.0 c.1) s) h.columns;
      apart = h.apart;
      tests = all_map (SqlTestFits f q) (SqlTestFits g q) q.tests (λ t s. (s.0, sym (cell_same t.table t.column) ∙ s.1, side_same s.0 t.right s.2)) h.tests;
    }

    pub type_same : sql_type f q ≡ sql_type g q
    type_same = ap (λ k. rec (row_by (λ t. t) (shown_columns k q.columns))) (fun_ext λ i. fun_ext λ l. cell_same i l)

-- ---- tables whose rows are told

module _ (attached : Name → Option Source) (rows : Name → List Value) where
  abbrev pub HasRows : Name → Type 0
  HasRows l = rows_there (attached l) ≡ Some (rows l)

  all_told : (ls : List Name) → AllByRecursion HasRows ls → are_told attached ls ≡ true
  all_told [] h = refl
  all_told (l ∷ ls) h = ap (λ o. is_some o && are_told attached ls) h.0 ∙ all_told ls h.1

  rows_same : (ls : List Name) → AllByRecursion HasRows ls → map (table_rows attached) ls ≡ map rows ls
  rows_same [] h = refl
  rows_same (l ∷ ls) h = ap (λ o. or_none o ∷ map (table_rows attached) ls) h.0 ∙ ap (λ more. rows l ∷ more) (rows_same ls h.1)

  -- a statement over them reads what it means over their rows
  pub joined_reads : (q : Spj) → AllByRecursion HasRows q.tables → joined_by attached (Some q) ≡ Some (spj rows q)
  joined_reads q h =
      ap (λ b. cond b (Some (spj (table_rows attached) q)) None) (all_told q.tables h)
      ∙ ap (λ tabs. let vs : List Value = map (shown_tuple q.columns) (filter (λ t. list_all (tuple_passes t) q.tests) (tuples tabs)) in Some (cond q.distinct (without_repeats vs) vs)) (rows_same q.tables h)

-- ---- tables whose rows are records

-- of rows that are told, each of which is a record of one type
pub record IsTold (o : Option Source) : Type 0 where
  pub source : Source
  pub is : o ≡ Some source
  pub row : Row
  pub shape : item_of (ground_of source.ty) ≡ rec row
  pub rows : List Value
  pub told : source.rows ≡ Some rows
  pub typed : AllByRecursion (Inhabits (rec row)) rows

module _ (attached : Name → Option Source) where
  abbrev AllTold : List Name → Type 0
  AllTold ls = AllByRecursion (λ l. IsTold (attached l)) ls

  abbrev table_row : (ls : List Name) → AllTold ls → List Row
  table_row [] h = []
  table_row (l ∷ ls) h = h.0.row ∷ table_row ls h.1

  rows_are : (o : Option Source) → (t : IsTold o) → or_none (rows_there o) ≡ t.rows
  rows_are o t = ap (λ x. or_none (rows_there x)) t.is ∙ ap or_none t.told

  has_rows : (l : Name) → IsTold (attached l) → HasRows attached (table_rows attached) l
  has_rows l t = ap rows_there t.is ∙ t.told ∙ ap Some (sym (rows_are (attached l) t))

  cell_is : (ls : List Name) (h : AllTold ls) (i : ℕ) (l : Name) → column_in (type_of_table (table_types attached) (slice_get ls i)) l ≡ column_type (table_row ls h) i l
  cell_is [] h i l = refl
  cell_is (m ∷ ls) h zero l = ap (λ o. column_in (row_type o) l) h.0.is ∙ ap (column l) h.0.shape
  cell_is (m ∷ ls) h (suc i) l = cell_is ls h.1 i l

  tuples_typed : (ls : List Name) (h : AllTold ls) → AllByRecursion (TupleOf (table_row ls h)) (tuples (map (table_rows attached) ls))
  tuples_typed [] h = (tt, tt)
  tuples_typed (l ∷ ls) h =
      all_tuples (table_row ls h.1) h.0.row (table_rows attached l) (tuples (map (table_rows attached) ls)) (subst (AllByRecursion (Inhabits (rec h.0.row))) (sym (rows_are (attached l) h.0)) h.0.typed) (tuples_typed ls h.1)

  module _ (q : Spj) (told : AllTold q.tables) (columns : AllByRecursion (λ c. IsSome (cell_type (table_types attached) q c.0 c.1)) q.columns) where
    abbrev rs : List Row
    rs = table_row q.tables told

    abbrev shown_type : Ground
    shown_type = rec (row_by (λ t. t) (shown_columns (column_type rs) q.columns))

    selected_typed : AllByRecursion (Inhabits shown_type) (selected (table_rows attached) q)
    selected_typed =
        all_shown (TupleOf rs) (Inhabits shown_type) (shown_tuple q.columns) (filter (λ t. list_all (tuple_passes t) q.tests) (tuples (map (table_rows attached) q.tables)))
        (λ t h. shown_inhabits rs t h q.columns (all_map (λ (c : SqlColumn). IsSome (cell_type (table_types attached) q c.0 c.1)) (λ (c : SqlColumn). IsSome (column_type rs c.0 c.1)) q.columns (λ c s. subst IsSome (cell_is q.tables told c.0 c.1) s) columns))
        (all_filtered (TupleOf rs) (λ t. list_all (tuple_passes t) q.tests) (tuples (map (table_rows attached) q.tables)) (tuples_typed q.tables told))

    distinct_typed : (b : Bool) → AllByRecursion (Inhabits shown_type) (cond b (without_repeats (selected (table_rows attached) q)) (selected (table_rows attached) q))
    distinct_typed true = all_without (Inhabits shown_type) (selected (table_rows attached) q) selected_typed
    distinct_typed false = selected_typed

    type_is : sql_type (table_types attached) q ≡ shown_type
    type_is = ap (λ k. rec (row_by (λ t. t) (shown_columns k q.columns))) (fun_ext λ i. fun_ext λ l. cell_is q.tables told i l)

    pub spj_typed : AllByRecursion (Inhabits (sql_type (table_types attached) q)) (spj (table_rows attached) q)
    spj_typed = subst (λ t. AllByRecursion (Inhabits t) (spj (table_rows attached) q)) (sym type_is) (distinct_typed q.distinct)

    pub spj_told : joined_by attached (Some q) ≡ Some (spj (table_rows attached) q)
    spj_told = joined_reads attached (table_rows attached) q (all_map (λ l. IsTold (attached l)) (HasRows attached (table_rows attached)) q.tables has_rows told)
