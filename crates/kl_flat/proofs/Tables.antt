-- The rows of a table in columns, and tests of them.
use Rattle.std.proofs.Common.{◌≡◌, ◌<◌, ◌+◌, ℕ, zero, suc, Bool, true, false, ◌&&◌, List, [], ◌∷◌, ◌++◌, map, filter, length, take, drop, get_or, cond, append_assoc, drop-cons, Option, Some, None, refl, sym, ap, ◌∙◌, subst, arith, slice_get, add-one}
use Rattle.std.specs.List.{list_all}
use Rattle.std.proofs.lemmas.Grind.{common_steps}
use Rattle.std.proofs.lemmas.List.{get_or-map, length-map, take_more}
use Rattle.std.proofs.lemmas.List.Elements.{All-append}
use Rattle.std.proofs.lemmas.List.Folds.{list_all-append}
use Rattle.std.proofs.lemmas.List.FromFn.{get_or-map-range_with_len, length-map-range_with_len}
use Rattle.std.proofs.lemmas.Option.{get_or_from_slice_get, slice_get-get_or, slice_get_within}
use Rattle.kl_base.specs.Fields.{field, labels_of}
use Rattle.kl_value.specs.Views.{field_at, field_layer}
use Rattle.kl_value.specs.declared.Value.{Value}
use Rattle.kl_value.specs.declared.Value.TheVariants as value
use Rattle.kl_outcome.specs.Outcome.{Name}
use Rattle.kl_ask.specs.Asks.{answers, compared, passes, shown, side}
use Rattle.kl_ask.specs.declared.ask.Cmp.{Cmp}
use Rattle.kl_ask.specs.declared.ask.ColTest.{ColTest}
use Rattle.kl_ask.specs.declared.ask.Right.TheVariants as right
use Rattle.kl_flat.specs.ColumnTable.{IsColumn, IsRow, rows_of}
use Rattle.kl_flat.specs.Held.{fields_at, height, labels_in, row_at, value_at}
use Rattle.kl_flat.specs.RowTests.{HasCells, NonePasses, RightHas, SaySame, passes_at, right_at}
use Rattle.kl_flat.specs.declared.column_table.ColumnTable.{ColumnTable}
use Rattle.kl_flat.specs.declared.held.Cells.{Cells}
use Rattle.kl_flat.specs.declared.held.Column.{Column}
use Rattle.kl_flat.specs.declared.row_tests.RowTest.{RowTest}

-- ---- rows

pub rows_length : (t : ColumnTable) → length (rows_of t) ≡ t.len
rows_length t = length-map-range_with_len (row_at t.columns.items) 0 t.len

row_found : (t : ColumnTable) (i : ℕ) (d : Value) → i < t.len → get_or (rows_of t) i d ≡ row_at t.columns.items i
row_found t i d lt = get_or-map-range_with_len (row_at t.columns.items) 0 t.len i i d lt (omega arith)

pub is_row : (t : ColumnTable) (i : ℕ) → i < length (rows_of t) → IsRow t i (row_at t.columns.items i)
is_row t i lt =
    slice_get-get_or (rows_of t) i (row_at t.columns.items i) lt ∙ ap Some (row_found t i (row_at t.columns.items i) (omega (arith, rows_length t)))

pub row_is : (t : ColumnTable) (i : ℕ) (row : Value) → IsRow t i row → row ≡ row_at t.columns.items i
row_is t i row is =
    sym (get_or_from_slice_get (rows_of t) i row row is) ∙ row_found t i row (omega (arith, slice_get_within (rows_of t) i row is, rows_length t))

pub is_tall : (t : ColumnTable) (i k : ℕ) (c : Column) → i < length (rows_of t) → k < length t.columns.items → c ≡ get_or t.columns.items k c → i < height c.cells
is_tall t i k c few lt is = omega (arith, rows_length t, t.filled k c lt, ap (λ (c : Column). height c.cells) is)

pub labels_at : (columns : List Column) (i : ℕ) → labels_of (fields_at columns i) ≡ labels_in columns
labels_at [] i = refl
labels_at (c ∷ columns) i = ap (λ ls. c.label ∷ ls) (labels_at columns i)

pub field_is : (columns : List Column) (i k : ℕ) (c : Column) → k < length columns → c ≡ get_or columns k c
    → (c.label, value_at c.cells i) ≡ get_or (fields_at columns i) k (c.label, value_at c.cells i)
field_is columns i k c lt is =
    ap (λ (c : Column). (c.label, value_at c.cells i)) is ∙ sym (get_or-map (λ (c : Column). (c.label, value_at c.cells i)) columns k c (c.label, value_at c.cells i) lt)

pub fields_length : (columns : List Column) (i : ℕ) → length (fields_at columns i) ≡ length columns
fields_length columns i = length-map columns (λ (c : Column). (c.label, value_at c.cells i))

-- ---- one test

record_has : (l : Name) (fs : List (Name × Value)) → field_at l (value.Rec fs) ≡ field l fs
record_has l fs = ap (field_layer l) (value.outs-Rec fs)

module _ (t : ColumnTable) (test : ColTest) where
  abbrev fs : ℕ → List (Name × Value)
  fs i = fields_at t.columns.items i

  left_is : (i : ℕ) (row : Value) → IsRow t i row → field_at test.left row ≡ field test.left (fs i)
  left_is i row is = ap (field_at test.left) (row_is t i row is) ∙ record_has test.left (fs i)

  pub no_left : ((i : ℕ) → field test.left (fs i) ≡ None) → NonePasses t (test ∷ [])
  no_left none i row is = ap (λ o. compared test.op o (side test.right row) && true) (left_is i row is ∙ none i)

  no_side : (op : Cmp) (o : Option Value) → (compared op o None && true) ≡ false
  no_side op None = refl
  no_side op (Some v) = refl

  right_is : (l : Name) → test.right ≡ right.Col l → (i : ℕ) (row : Value) → IsRow t i row → side test.right row ≡ field l (fs i)
  right_is l col i row is = ap (λ r. side r row) col ∙ ap (field_at l) (row_is t i row is) ∙ record_has l (fs i)

  pub no_right : (l : Name) → test.right ≡ right.Col l → ((i : ℕ) → field l (fs i) ≡ None) → NonePasses t (test ∷ [])
  no_right l col none i row is =
      ap (λ o. compared test.op (field_at test.left row) o && true) (right_is l col i row is ∙ none i) ∙ no_side test.op (field_at test.left row)

  module _ (found : RowTest) (left : IsColumn t test.left found.left.now) (op : found.op ≡ test.op) where
    one_test : ((i : ℕ) → i < t.len → RightHas i found.right) → ((i : ℕ) (row : Value) → IsRow t i row → side test.right row ≡ Some (right_at found.right i)) → SaySame t (test ∷ []) (found ∷ [])
    one_test has same = record {
      cells = λ i lt k d few. cells i lt k d few;
      same = λ i row is. (λ j. compared (sym op j) ((left_is i row is ∙ left.values i) j) (same i row is j) && true);
    }
      where
        cells : (i : ℕ) → i < t.len → (k : ℕ) (d : RowTest) → k < length (found ∷ []) → HasCells i (get_or (found ∷ []) k d)
        cells i lt zero d few = (omega (arith, lt, left.filled), has i lt)
        cells i lt (suc k) d few = absurd (omega (arith, few))

    pub column_test : (l : Name) (cells : Cells) → test.right ≡ right.Col l → IsColumn t l cells → ((i : ℕ) → i < height cells → RightHas i found.right) → ((i : ℕ) → right_at found.right i ≡ value_at cells i) → SaySame t (test ∷ []) (found ∷ [])
    column_test l cells col is has same = one_test (λ i lt. has i (omega (arith, lt, is.filled))) (λ i row row_is. right_is l col i row row_is ∙ is.values i ∙ ap Some (sym (same i)))

    pub constant_test : (v : Value) → test.right ≡ right.Const v → ((i : ℕ) → RightHas i found.right) → ((i : ℕ) → right_at found.right i ≡ v) → SaySame t (test ∷ []) (found ∷ [])
    constant_test v const has same = one_test (λ i lt. has i) (λ i row is. ap (λ r. side r row) const ∙ ap Some (sym (same i)))

-- ---- all tests

pub say_more : (t : ColumnTable) (before tests : List ColTest) (i : ℕ) (test : ColTest) (found after : List RowTest) (made : RowTest)
    → before ≡ take i tests → i < length tests → test ≡ get_or tests i test → after ≡ found ++ made ∷ [] → SaySame t before found → SaySame t (test ∷ []) (made ∷ []) → SaySame t (take (i + 1) tests) after
say_more t before tests i test found after made front lt is grown so_far one =
    subst (λ ts. SaySame t ts after) (sym longer) (subst (SaySame t (before ++ test ∷ [])) (sym grown) (record {
      cells = λ i lt. All-append (HasCells i) found (made ∷ []) (so_far.cells i lt) (one.cells i lt);
      same = λ i row is. list_all-append (passes row) before (test ∷ []) ∙ (λ j. so_far.same i row is j && one.same i row is j) ∙ sym (list_all-append (λ (t : RowTest). passes_at t i) found (made ∷ []));
    }))
  where
    longer : take (i + 1) tests ≡ before ++ test ∷ []
    longer = take_more tests i test lt ∙ (λ j. sym front j ++ sym is j ∷ [])

-- ---- answers

abbrev passing : List ColTest → Value → Bool
passing tests v = list_all (passes v) tests

module _ (rows : List Value) (keep : List Name) (tests : List ColTest) (at : ℕ) (row : Value) (is : slice_get rows at ≡ Some row) where
  next_row : drop at rows ≡ row ∷ drop (at + 1) rows
  next_row =
      let lt : at < length rows = slice_get_within rows at row is in
      let here : get_or rows at row ≡ row = get_or_from_slice_get rows at row row is in
      drop-cons rows at row lt ∙ (λ j. here j ∷ drop (sym (add-one at) j) rows)

  pub answer_more : (taken taken' : List Value) (whole : List Value) → list_all (passes row) tests ≡ true → taken' ≡ taken ++ shown keep row ∷ []
      → whole ≡ taken ++ answers (drop at rows) keep tests → whole ≡ taken' ++ answers (drop (at + 1) rows) keep tests
  answer_more taken taken' whole pass grown so_far =
      so_far ∙ ap (λ rows. taken ++ answers rows keep tests) next_row ∙ ap (λ b. taken ++ map (shown keep) (cond b (row ∷ filter (passing tests) (drop (at + 1) rows)) (filter (passing tests) (drop (at + 1) rows)))) pass
      ∙ sym (append_assoc taken (shown keep row ∷ []) (answers (drop (at + 1) rows) keep tests)) ∙ ap (λ xs. xs ++ answers (drop (at + 1) rows) keep tests) (sym grown)

  pub answer_same : (taken : List Value) (whole : List Value) → list_all (passes row) tests ≡ false
      → whole ≡ taken ++ answers (drop at rows) keep tests → whole ≡ taken ++ answers (drop (at + 1) rows) keep tests
  answer_same taken whole fail so_far =
      so_far ∙ ap (λ rows. taken ++ answers rows keep tests) next_row ∙ ap (λ b. taken ++ map (shown keep) (cond b (row ∷ filter (passing tests) (drop (at + 1) rows)) (filter (passing tests) (drop (at + 1) rows)))) fail

-- where no row passes, none answers
pub none_answers : (keep : List Name) (tests : List ColTest) (rows : List Value) → ((i : ℕ) (row : Value) → slice_get rows i ≡ Some row → list_all (passes row) tests ≡ false) → (n : ℕ) → answers (drop n rows) keep tests ≡ []
none_answers keep tests [] none zero = refl
none_answers keep tests [] none (suc n) = refl
none_answers keep tests (row ∷ rows) none (suc n) = none_answers keep tests rows (λ i. none (suc i)) n
none_answers keep tests (row ∷ rows) none zero =
    let more = none_answers keep tests rows (λ i. none (suc i)) zero in
    let fail : list_all (passes row) tests ≡ false = none zero row refl in
    rw fail more

-- ---- a list that was lent whole

pub lent_back : {A : Type 0} (old new : List A) (n : ℕ) → n ≡ length old → length new ≡ length old → take n (new ++ drop (length new) old) ≡ new
lent_back old new n is same = grind (arith, common_steps)
