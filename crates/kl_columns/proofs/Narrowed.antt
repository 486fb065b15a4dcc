-- A table that is read as texts is read as its narrowest types too.
use Rattle.std.proofs.Common.{◌≡◌, ◌<◌, ◌≤◌, ◌+◌, ◌==◌, ◌&&◌, ◌||◌, ℕ, zero, suc, Bool, true, false, not, List, [], ◌∷◌, length, get_or, map, cond, codes, nat_eq, Option, Some, None, refl, sym, ap, ◌∙◌, subst, arith, zero-add, true≢false}
use Rattle.std.specs.Cmp.Lexicographic.{pointwise}
use Rattle.std.specs.List.{AllByRecursion, list_all, range_with_len, zip}
use Rattle.std.specs.Option.{is_some, option_map, unwrap_or}
use Rattle.std.proofs.lemmas.Bool.{and_parts}
use Rattle.std.proofs.lemmas.List.{length-map}
use Rattle.std.proofs.lemmas.List.Folds.{list_all-append, list_all_at}
use Rattle.std.proofs.lemmas.List.FromFn.{get_or-map-range_with_len, length-map-range_with_len, map-range_with_len_more}
use Rattle.std.proofs.lemmas.Option.{same_Some}
use Rattle.kl_base.specs.Fields.{field}
use Rattle.kl_value.specs.declared.Value.{Value, Value-F, out-Value}
use Rattle.kl_value.specs.declared.Value.TheVariants as value
use Rattle.kl_type.specs.Parts.{is_string}
use Rattle.kl_type.specs.declared.ground.Ty.{Ty}
use Rattle.kl_type.specs.declared.ground.Ty.TheVariants as ty
use Rattle.kl_prim.specs.Meaning.{number_in}
use Rattle.kl_ask.specs.Tables.{columns_of}
use Rattle.kl_flat.specs.Cells.{cell_value, without_blanks}
use Rattle.kl_flat.specs.ColumnTable.{rows_of}
use Rattle.kl_flat.specs.Columns.{base_layer, is_base, is_table_type}
use Rattle.kl_flat.specs.Held.{columns_in, fields_at, height, row_at, text_at, type_of, value_at}
use Rattle.kl_flat.specs.Table.{Columns, Record, all_of, bad_in, bad_record, first_missing, front_of, is_header, part_in, row_in, rows_in, table_records, table_rows, times}
use Rattle.kl_flat.specs.declared.column_table.ColumnTable.{ColumnTable}
use Rattle.kl_flat.specs.declared.held.Cells.{Cells}
use Rattle.kl_flat.specs.declared.held.Cells.TheVariants as cells
use Rattle.kl_flat.specs.declared.held.Column.{Column}
use Rattle.kl_flat.specs.declared.texts.Texts.{Texts}
use Rattle.kl_flat.proofs.Gaining.{number_cell, text_cell, truth_cell}
use Rattle.kl_flat.proofs.Rows.{part_is, part_none}
use Rattle.kl_sqlserve.specs.Server.{is_list}
use Rattle.kl_columns.specs.Headers.{table_labels}
use Rattle.kl_columns.specs.Listing.{IsReadAs}
use Rattle.kl_columns.specs.Narrowing.{are_texts, cells_under, narrow_columns, narrow_type, narrowest, reads_as}

-- ---- one cell

each_passes : (p : List ℕ → Bool) (xs : List (List ℕ)) (i : ℕ) (d : List ℕ) → i < length xs → list_all p xs ≡ true → p (get_or xs i d) ≡ true
each_passes p xs i d less all = by (p (get_or xs i d)) refl
  where
    by : (b : Bool) → p (get_or xs i d) ≡ b → p (get_or xs i d) ≡ true
    by true e = e
    by false e = absurd (true≢false (sym all ∙ list_all_at p xs i d less e))

narrow_reads_at : (xs : List (List ℕ)) (i : ℕ) (d : List ℕ) → i < length xs → reads_as (narrowest xs) (get_or xs i d) ≡ true
narrow_reads_at xs i d less = by_int (list_all (reads_as ty.Int) xs) refl
  where
    by_bool : (b : Bool) → list_all (reads_as ty.Bool) xs ≡ b → reads_as (cond b ty.Bool ty.Str) (get_or xs i d) ≡ true
    by_bool true e = each_passes (reads_as ty.Bool) xs i d less e
    by_bool false e = ap is_some (text_cell (get_or xs i d))

    by_int : (b : Bool) → list_all (reads_as ty.Int) xs ≡ b → reads_as (cond b ty.Int (cond (list_all (reads_as ty.Bool) xs) ty.Bool ty.Str)) (get_or xs i d) ≡ true
    by_int true e = each_passes (reads_as ty.Int) xs i d less e
    by_int false e = by_bool (list_all (reads_as ty.Bool) xs) refl

same_texts : (s t : List ℕ) → value.Text s ≡ value.Text t → s ≡ t
same_texts s t e = let level : Value-F.Text s ≡ Value-F.Text t = sym (value.outs-Text s) ∙ (ap out-Value e ∙ value.outs-Text t) in cc

same_records : (fs gs : List (List ℕ × Value)) → value.Rec fs ≡ value.Rec gs → fs ≡ gs
same_records fs gs e = let level : Value-F.Rec fs ≡ Value-F.Rec gs = sym (value.outs-Rec fs) ∙ (ap out-Value e ∙ value.outs-Rec gs) in cc

-- a cell whose value stands in a column of texts has a value of the narrowest type
narrow_cell : (rows i : ℕ) (c : Cells) (cell : List ℕ) → i < rows → cell_value cell (type_of c) ≡ Some (value_at c i) → reads_as (narrow_type rows c) cell ≡ true
narrow_cell rows i (cells.Bool truths) cell less e = ap is_some (text_cell cell)
narrow_cell rows i (cells.Int numbers) cell less e = ap is_some (text_cell cell)
narrow_cell rows i (cells.Text texts) cell less e =
    let xs : List (List ℕ) = map (text_at texts) (range_with_len 0 rows) in
    let is : cell ≡ text_at texts i = same_texts cell (text_at texts i) (same_Some (value.Text cell) (value.Text (text_at texts i)) (sym (text_cell cell) ∙ e)) in
    let there : get_or xs i cell ≡ cell = get_or-map-range_with_len (text_at texts) 0 rows i i cell less (zero-add i) ∙ sym is in
    subst (λ x. reads_as (narrowest xs) x ≡ true) there (narrow_reads_at xs i cell (omega (arith, less, length-map-range_with_len (text_at texts) 0 rows)))

-- ---- one row

abbrev narrow : ℕ → Column → List ℕ × Ty
narrow rows c = (c.label, narrow_type rows c.cells)

none_some : {A : Type 0} {x : A} → None ≡ Some x → ⊥
none_some h = cc

module _ {A : Type 0} where
  first_and_rest : (o : Option A) (os : List (Option A)) (x : A) (xs : List A) → all_of (o ∷ os) ≡ Some (x ∷ xs) → (o ≡ Some x) × (all_of os ≡ Some xs)
  first_and_rest None os x xs e = absurd (none_some e)
  first_and_rest (Some y) os x xs e = by (all_of os) refl
    where
      by : (p : Option (List A)) → all_of os ≡ p → (Some y ≡ Some x) × (all_of os ≡ Some xs)
      by None is = absurd (none_some (ap (option_map (λ ys. y ∷ ys)) (sym is) ∙ e))
      by (Some ys) is =
          let same : y ∷ ys ≡ x ∷ xs = same_Some (y ∷ ys) (x ∷ xs) (ap (option_map (λ ys. y ∷ ys)) (sym is) ∙ e) in
          let first : y ≡ x = cc in
          let rest : ys ≡ xs = cc in
          (ap Some first, is ∙ ap Some rest)

-- the cell of a field
cell_of : (cells : List (List ℕ × List ℕ)) (l : List ℕ) (t : Ty) (v : Value) → part_in cells (l, t) ≡ Some (l, v) → (cell : List ℕ) × (field l cells ≡ Some cell) × (cell_value cell t ≡ Some v)
cell_of cells l t v e = by (field l cells) refl
  where
    there : (cell : List ℕ) (o : Option Value) → field l cells ≡ Some cell → cell_value cell t ≡ o → (c : List ℕ) × (field l cells ≡ Some c) × (cell_value c t ≡ Some v)
    there cell None is none = absurd (none_some (sym (part_is cells (l, t) cell None is none) ∙ e))
    there cell (Some w) is some =
        let same : (l, w) ≡ (l, v) = same_Some (l, w) (l, v) (sym (part_is cells (l, t) cell (Some w) is some) ∙ e) in
        (cell, is, some ∙ ap (λ (p : List ℕ × Value). Some p.1) same)

    by : (o : Option (List ℕ)) → field l cells ≡ o → (c : List ℕ) × (field l cells ≡ Some c) × (cell_value c t ≡ Some v)
    by None is = absurd (none_some (sym (part_none cells (l, t) is) ∙ e))
    by (Some cell) is = there cell (cell_value cell t) is refl

some_there : {A : Type 0} (o : Option A) → is_some o ≡ true → (x : A) × (o ≡ Some x)
some_there None e = absurd (true≢false (sym e))
some_there (Some x) e = (x, refl)

mapped_some : {A B : Type 0} (f : A → B) (o : Option A) → is_some (option_map f o) ≡ is_some o
mapped_some f None = refl
mapped_some f (Some x) = refl

narrow_parts : (cells : List (List ℕ × List ℕ)) (rows i : ℕ) (columns : List Column) → i < rows → all_of (map (part_in cells) (columns_in columns)) ≡ Some (fields_at columns i)
    → is_some (all_of (map (part_in cells) (map (narrow rows) columns))) ≡ true
narrow_parts cells rows i [] less e = refl
narrow_parts cells rows i (c ∷ columns) less e =
    let parts = first_and_rest (part_in cells (c.label, type_of c.cells)) (map (part_in cells) (columns_in columns)) (c.label, value_at c.cells i) (fields_at columns i) e in
    let found = cell_of cells c.label (type_of c.cells) (value_at c.cells i) parts.0 in
    let value = some_there (cell_value found.0 (narrow_type rows c.cells)) (narrow_cell rows i c.cells found.0 less found.2) in
    let others : List (Option (List ℕ × Value)) = map (part_in cells) (map (narrow rows) columns) in
    ap (λ o. is_some (all_of (o ∷ others))) (part_is cells (narrow rows c) found.0 (Some value.0) found.1 value.1)
    ∙ mapped_some (λ fs. (c.label, value.0) ∷ fs) (all_of others) ∙ narrow_parts cells rows i columns less parts.1

narrow_row : (header entry : Record) (rows i : ℕ) (columns : List Column) → i < rows → row_in (columns_in columns) header entry ≡ Some (row_at columns i)
    → is_some (row_in (map (narrow rows) columns) header entry) ≡ true
narrow_row header entry rows i columns less e = by (length entry == length header) e
  where
    parts : (o : Option (List (List ℕ × Value))) → option_map value.Rec o ≡ Some (row_at columns i) → o ≡ Some (fields_at columns i)
    parts None is = cc
    parts (Some fs) is = ap Some (same_records fs (fields_at columns i) (same_Some (value.Rec fs) (row_at columns i) is))

    by : (b : Bool) → cond b (option_map value.Rec (all_of (map (part_in (zip header entry)) (columns_in columns)))) None ≡ Some (row_at columns i)
        → is_some (cond b (option_map value.Rec (all_of (map (part_in (zip header entry)) (map (narrow rows) columns)))) None) ≡ true
    by true is = mapped_some value.Rec (all_of (map (part_in (zip header entry)) (map (narrow rows) columns))) ∙ narrow_parts (zip header entry) rows i columns less (parts _ is)
    by false is = cc

-- ---- all rows

module _ (header : Record) (rows : ℕ) (columns : List Column) where
  narrow_rows : (k n m : ℕ) (rs : List Record) → n + m ≤ rows → first_missing k (map (row_in (columns_in columns) header) rs) ≡ None
      → front_of (map (row_in (columns_in columns) header) rs) ≡ map (row_at columns) (range_with_len n m) → first_missing k (map (row_in (map (narrow rows) columns) header) rs) ≡ None
  narrow_rows k n m [] fits none front = refl
  narrow_rows k n zero (r ∷ rs) fits none front = by (row_in (columns_in columns) header r) none front
    where
      by : (o : Option Value) → first_missing k (o ∷ map (row_in (columns_in columns) header) rs) ≡ None → front_of (o ∷ map (row_in (columns_in columns) header) rs) ≡ []
          → first_missing k (map (row_in (map (narrow rows) columns) header) (r ∷ rs)) ≡ None
      by None none front = cc
      by (Some x) none front = cc
  narrow_rows k n (suc m) (r ∷ rs) fits none front = by (narrow_rows (k + 1) (n + 1) m rs (omega (arith, fits))) (row_in (columns_in columns) header r) refl none front
    where
      by : (first_missing (k + 1) (map (row_in (columns_in columns) header) rs) ≡ None → front_of (map (row_in (columns_in columns) header) rs) ≡ map (row_at columns) (range_with_len (n + 1) m)
          → first_missing (k + 1) (map (row_in (map (narrow rows) columns) header) rs) ≡ None) → (o : Option Value) → row_in (columns_in columns) header r ≡ o → first_missing k (o ∷ map (row_in (columns_in columns) header) rs) ≡ None
          → front_of (o ∷ map (row_in (columns_in columns) header) rs) ≡ row_at columns n ∷ map (row_at columns) (range_with_len (n + 1) m)
          → first_missing k (map (row_in (map (narrow rows) columns) header) (r ∷ rs)) ≡ None
      by more None is none front = cc
      by more (Some x) is none front =
          let first : x ≡ row_at columns n = cc in
          let rest : front_of (map (row_in (columns_in columns) header) rs) ≡ map (row_at columns) (range_with_len (n + 1) m) = cc in
          let found = some_there (row_in (map (narrow rows) columns) header r) (narrow_row header r rows n columns (omega (arith, fits)) (is ∙ ap Some first)) in
          ap (λ o. first_missing k (o ∷ map (row_in (map (narrow rows) columns) header) rs)) found.1 ∙ more none rest

narrow_header : (header : Record) (rows : ℕ) (columns : List Column) → is_header (map (narrow rows) columns) header ≡ is_header (columns_in columns) header
narrow_header header rows [] = refl
narrow_header header rows (c ∷ columns) = ap (λ b. (times c.label header == 1) && b) (narrow_header header rows columns)

narrow_bad : (rows m : ℕ) (columns : List Column) (rs : List Record) → m ≤ rows → bad_in (columns_in columns) rs ≡ None → rows_in (columns_in columns) rs ≡ map (row_at columns) (range_with_len 0 m)
    → bad_in (map (narrow rows) columns) rs ≡ None
narrow_bad rows m columns [] fits none front = cc
narrow_bad rows m columns (header ∷ rs) fits none front =
    ap (λ b. cond b (first_missing 1 (map (row_in (map (narrow rows) columns) header) rs)) (Some 0)) (narrow_header header rows columns) ∙ by (is_header (columns_in columns) header) none front
  where
    by : (b : Bool) → cond b (first_missing 1 (map (row_in (columns_in columns) header) rs)) (Some 0) ≡ None
        → cond b (front_of (map (row_in (columns_in columns) header) rs)) [] ≡ map (row_at columns) (range_with_len 0 m)
        → cond b (first_missing 1 (map (row_in (map (narrow rows) columns) header) rs)) (Some 0) ≡ None
    by true none front = narrow_rows header rows columns 1 0 m rs (omega (arith, fits)) none front
    by false none front = cc

-- ---- columns of texts, cell by cell

pub truth_reads : (bs : List ℕ) → reads_as ty.Bool bs ≡ (pointwise nat_eq bs (codes "true") || pointwise nat_eq bs (codes "false"))
truth_reads bs = ap is_some (truth_cell bs) ∙ by (pointwise nat_eq bs (codes "true")) (pointwise nat_eq bs (codes "false"))
  where
    by : (a b : Bool) → is_some (cond a (Some (value.Bool true)) (cond b (Some (value.Bool false)) None)) ≡ (a || b)
    by true b = refl
    by false true = refl
    by false false = refl

pub number_reads : (bs : List ℕ) → reads_as ty.Int bs ≡ is_some (number_in (without_blanks bs))
number_reads bs = ap is_some (number_cell bs) ∙ mapped_some value.Int (number_in (without_blanks bs))

module _ (p : List ℕ → Bool) (f : ℕ → List ℕ) (i : ℕ) where
  pub reads_more : list_all p (map f (range_with_len 0 i)) ≡ true → p (f i) ≡ true → list_all p (map f (range_with_len 0 (i + 1))) ≡ true
  reads_more before one = ap (list_all p) (map-range_with_len_more f 0 i i (zero-add i)) ∙ list_all-append p (map f (range_with_len 0 i)) (f i ∷ []) ∙ (λ j. before j && (one j && true))

  pub reads_not : (n : ℕ) → i < n → p (f i) ≡ false → false ≡ list_all p (map f (range_with_len 0 n))
  reads_not n less one =
      sym (list_all_at p (map f (range_with_len 0 n)) i (f i) (omega (arith, less, length-map-range_with_len f 0 n))
      (ap p (get_or-map-range_with_len f 0 n i i (f i) less (zero-add i)) ∙ one))

-- a table has no more rows than each of its columns has cells
pub rows_within : (t : ColumnTable) (i : ℕ) (c : Column) → i < length t.columns.items → c ≡ get_or t.columns.items i c → length (rows_of t) ≤ height c.cells
rows_within t i c less is =
    let here : t.len ≤ height (get_or t.columns.items i c).cells = t.filled i c less in
    omega (arith, length-map-range_with_len (row_at t.columns.items) 0 t.len, subst (λ (x : Column). t.len ≤ height x.cells) (sym is) here)

-- ---- the type

narrow_base : (rows : ℕ) (c : Cells) → is_base (narrow_type rows c) ≡ true
narrow_base rows (cells.Bool truths) = ap base_layer ty.outs-Str
narrow_base rows (cells.Int numbers) = ap base_layer ty.outs-Str
narrow_base rows (cells.Text texts) = by (list_all (reads_as ty.Int) xs) (list_all (reads_as ty.Bool) xs)
  where
    xs : List (List ℕ)
    xs = map (text_at texts) (range_with_len 0 rows)

    by : (b c : Bool) → is_base (cond b ty.Int (cond c ty.Bool ty.Str)) ≡ true
    by true c = ap base_layer ty.outs-Int
    by false true = ap base_layer ty.outs-Bool
    by false false = ap base_layer ty.outs-Str

all_base : (rows : ℕ) (columns : List Column) → list_all (λ (c : List ℕ × Ty). is_base c.1) (map (narrow rows) columns) ≡ true
all_base rows [] = refl
all_base rows (c ∷ columns) = (λ i. narrow_base rows c.cells i && all_base rows columns i)

suits_narrow : (rows : ℕ) (columns : List Column) (given : Columns) → columns_in columns ≡ given → not (length given == 0) && list_all (λ (c : List ℕ × Ty). is_base c.1) given ≡ true
    → not (length (map (narrow rows) columns) == 0) && list_all (λ (c : List ℕ × Ty). is_base c.1) (map (narrow rows) columns) ≡ true
suits_narrow rows columns given is suits =
    let some : not (length given == 0) ≡ true = (and_parts (not (length given == 0)) (list_all (λ (c : List ℕ × Ty). is_base c.1) given) suits).0 in
    let size : length (map (narrow rows) columns) ≡ length given = length-map columns (narrow rows) ∙ (sym (length-map columns (λ (c : Column). (c.label, type_of c.cells))) ∙ ap length is) in
    (λ i. not (size i == 0) && all_base rows columns i) ∙ ap (λ b. b && true) some

-- ---- the cells of each column

module _ {P Q R : Column → Type 0} where
  all_both : (columns : List Column) → ((c : Column) → P c → Q c → R c) → AllByRecursion P columns → AllByRecursion Q columns → AllByRecursion R columns
  all_both [] both ps qs = tt
  all_both (c ∷ columns) both ps qs = (both c ps.0 qs.0, all_both columns both ps.1 qs.1)

all_any : {P : Column → Type 0} (columns : List Column) → ((c : Column) → P c) → AllByRecursion P columns
all_any [] any = tt
all_any (c ∷ columns) any = (any c, all_any columns any)

-- a record has a cell in the column, which means what is held there
abbrev HasCell : List (List ℕ × List ℕ) → ℕ → Column → Type 0
HasCell cells i c = (cell : List ℕ) × (field c.label cells ≡ Some cell) × (cell_value cell (type_of c.cells) ≡ Some (value_at c.cells i))

cells_in : (cells : List (List ℕ × List ℕ)) (i : ℕ) (columns : List Column) → all_of (map (part_in cells) (columns_in columns)) ≡ Some (fields_at columns i) → AllByRecursion (HasCell cells i) columns
cells_in cells i [] e = tt
cells_in cells i (c ∷ columns) e =
    let parts = first_and_rest (part_in cells (c.label, type_of c.cells)) (map (part_in cells) (columns_in columns)) (c.label, value_at c.cells i) (fields_at columns i) e in
    (cell_of cells c.label (type_of c.cells) (value_at c.cells i) parts.0, cells_in cells i columns parts.1)

row_cells : (header entry : Record) (i : ℕ) (columns : List Column) → row_in (columns_in columns) header entry ≡ Some (row_at columns i) → AllByRecursion (HasCell (zip header entry) i) columns
row_cells header entry i columns e = by (length entry == length header) e
  where
    parts : (o : Option (List (List ℕ × Value))) → option_map value.Rec o ≡ Some (row_at columns i) → o ≡ Some (fields_at columns i)
    parts None is = absurd (none_some is)
    parts (Some fs) is = ap Some (same_records fs (fields_at columns i) (same_Some (value.Rec fs) (row_at columns i) is))

    by : (b : Bool) → cond b (option_map value.Rec (all_of (map (part_in (zip header entry)) (columns_in columns)))) None ≡ Some (row_at columns i) → AllByRecursion (HasCell (zip header entry) i) columns
    by true is = cells_in (zip header entry) i columns (parts _ is)
    by false is = absurd (none_some is)

module _ (header : Record) where
  -- the cells that records have there are the texts that the column holds
  abbrev HoldsCells : ℕ → ℕ → List Record → Column → Type 0
  HoldsCells n m rs c = (texts : Texts) → c.cells ≡ cells.Text texts → map (λ r. unwrap_or (field c.label (zip header r)) []) rs ≡ map (text_at texts) (range_with_len n m)

  one_cell : (r : Record) (n m : ℕ) (rs : List Record) (c : Column) → HasCell (zip header r) n c → HoldsCells (n + 1) m rs c → HoldsCells n (suc m) (r ∷ rs) c
  one_cell r n m rs c here rest texts is =
      let meant : cell_value here.0 ty.Str ≡ Some (value.Text (text_at texts n)) = subst (λ cs. cell_value here.0 (type_of cs) ≡ Some (value_at cs n)) is here.2 in
      let same : here.0 ≡ text_at texts n = same_texts here.0 (text_at texts n) (same_Some (value.Text here.0) (value.Text (text_at texts n)) (sym (text_cell here.0) ∙ meant)) in
      let first : unwrap_or (field c.label (zip header r)) [] ≡ text_at texts n = ap (λ o. unwrap_or o []) here.1 ∙ same in
      (λ i. first i ∷ rest texts is i)

  all_cells : (columns : List Column) (k n m : ℕ) (rs : List Record) → first_missing k (map (row_in (columns_in columns) header) rs) ≡ None
      → front_of (map (row_in (columns_in columns) header) rs) ≡ map (row_at columns) (range_with_len n m) → AllByRecursion (HoldsCells n m rs) columns
  all_cells columns k n zero [] none front = all_any columns (λ c texts is. refl)
  all_cells columns k n (suc m) [] none front = absurd (nothing_some front)
    where
      nothing_some : {x : Value} {xs : List Value} → [] ≡ x ∷ xs → ⊥
      nothing_some h = cc
  all_cells columns k n zero (r ∷ rs) none front = absurd (by (row_in (columns_in columns) header r) none front)
    where
      by : (o : Option Value) → first_missing k (o ∷ map (row_in (columns_in columns) header) rs) ≡ None → front_of (o ∷ map (row_in (columns_in columns) header) rs) ≡ [] → ⊥
      by None none front = cc
      by (Some x) none front = cc
  all_cells columns k n (suc m) (r ∷ rs) none front = by (all_cells columns (k + 1) (n + 1) m rs) (row_in (columns_in columns) header r) refl none front
    where
      by : (first_missing (k + 1) (map (row_in (columns_in columns) header) rs) ≡ None → front_of (map (row_in (columns_in columns) header) rs) ≡ map (row_at columns) (range_with_len (n + 1) m)
          → AllByRecursion (HoldsCells (n + 1) m rs) columns) → (o : Option Value) → row_in (columns_in columns) header r ≡ o → first_missing k (o ∷ map (row_in (columns_in columns) header) rs) ≡ None
          → front_of (o ∷ map (row_in (columns_in columns) header) rs) ≡ row_at columns n ∷ map (row_at columns) (range_with_len (n + 1) m)
          → AllByRecursion (HoldsCells n (suc m) (r ∷ rs)) columns
      by more None is none front = absurd (none_some (sym none))
      by more (Some x) is none front =
          let first : x ≡ row_at columns n = cc in
          let rest : front_of (map (row_in (columns_in columns) header) rs) ≡ map (row_at columns) (range_with_len (n + 1) m) = cc in
          all_both columns (one_cell r n m rs) (row_cells header r n columns (is ∙ ap Some first)) (more none rest)

text_column : (c : Cells) → is_string (type_of c) ≡ true → (texts : Texts) × (c ≡ cells.Text texts)
text_column (cells.Bool truths) e = let g = rw ty.outs-Bool at e in absurd (true≢false (sym g))
text_column (cells.Int numbers) e = let g = rw ty.outs-Int at e in absurd (true≢false (sym g))
text_column (cells.Text texts) e = (texts, refl)

all_narrow : (rows : ℕ) (records : List Record) (columns : List Column) → are_texts (columns_in columns) ≡ true
    → AllByRecursion (λ c. (texts : Texts) → c.cells ≡ cells.Text texts → cells_under records c.label ≡ map (text_at texts) (range_with_len 0 rows)) columns
    → AllByRecursion (λ (c : List ℕ × Ty). c.1 ≡ narrowest (cells_under records c.0)) (map (narrow rows) columns)
all_narrow rows records [] texts held = tt
all_narrow rows records (c ∷ columns) texts held =
    let both = and_parts (is_string (type_of c.cells)) (are_texts (columns_in columns)) texts in
    let found = text_column c.cells both.0 in
    (ap (narrow_type rows) found.1 ∙ ap narrowest (sym (held.0 found.0 found.1)), all_narrow rows records columns both.1 held.1)

narrow_cells : (rows m : ℕ) (columns : List Column) (records : List Record) → rows ≡ m → are_texts (columns_in columns) ≡ true → bad_in (columns_in columns) records ≡ None
    → rows_in (columns_in columns) records ≡ map (row_at columns) (range_with_len 0 m) → AllByRecursion (λ (c : List ℕ × Ty). c.1 ≡ narrowest (cells_under records c.0)) (map (narrow rows) columns)
narrow_cells rows m columns [] same texts none front = absurd (none_some (sym none))
narrow_cells rows m columns (header ∷ rs) same texts none front =
    all_narrow rows (header ∷ rs) columns texts (subst (λ n. AllByRecursion (HoldsCells header 0 n rs) columns) (sym same) (by (is_header (columns_in columns) header) none front))
  where
    by : (b : Bool) → cond b (first_missing 1 (map (row_in (columns_in columns) header) rs)) (Some 0) ≡ None
        → cond b (front_of (map (row_in (columns_in columns) header) rs)) [] ≡ map (row_at columns) (range_with_len 0 m) → AllByRecursion (HoldsCells header 0 m rs) columns
    by true none front = all_cells header columns 1 0 m rs none front
    by false none front = absurd (none_some (sym none))

same_labels : (rows : ℕ) (columns : List Column) → map (λ (c : List ℕ × Ty). c.0) (map (narrow rows) columns) ≡ map (λ (c : List ℕ × Ty). c.0) (columns_in columns)
same_labels rows [] = refl
same_labels rows (c ∷ columns) = ap (λ ls. c.label ∷ ls) (same_labels rows columns)

-- the type of the columns of a table of texts, with their narrowest types
pub narrow_reads : (bytes : List ℕ) (texts narrow_ty : Ty) (t : ColumnTable) → is_table_type texts ≡ true → are_texts (columns_of texts) ≡ true → map (λ c. c.0) (columns_of texts) ≡ table_labels (table_records bytes) → columns_in t.columns.items ≡ columns_of texts → rows_of t ≡ table_rows bytes texts
    → bad_record bytes texts ≡ None → columns_of narrow_ty ≡ narrow_columns t → is_list narrow_ty ≡ false → IsReadAs bytes narrow_ty
narrow_reads bytes texts narrow_ty t suits all labels columns rows good is unordered =
    let size : length (rows_of t) ≡ t.len = length-map-range_with_len (row_at t.columns.items) 0 t.len in
    let none = ap (λ cs. bad_in cs (table_records bytes)) columns ∙ good in
    let front = ap (λ cs. rows_in cs (table_records bytes)) columns ∙ sym rows in
    record {
      suits = ap (λ (cs : Columns). not (length cs == 0) && list_all (λ (c : List ℕ × Ty). is_base c.1) cs) is ∙ suits_narrow (length (rows_of t)) t.columns.items (columns_of texts) columns suits;
      unordered = unordered;
      good = ap (λ cs. bad_in cs (table_records bytes)) is ∙ narrow_bad (length (rows_of t)) t.len t.columns.items (table_records bytes) (omega (arith, size)) none front;
      narrow = record {
        labels = ap (λ (cs : Columns). map (λ c. c.0) cs) is ∙ same_labels (length (rows_of t)) t.columns.items ∙ ap (λ (cs : Columns). map (λ c. c.0) cs) columns ∙ labels;
        types = subst (AllByRecursion (λ (c : List ℕ × Ty). c.1 ≡ narrowest (cells_under (table_records bytes) c.0))) (sym is)
            (narrow_cells (length (rows_of t)) t.len t.columns.items (table_records bytes) size (ap are_texts columns ∙ all) none front);
      };
    }
