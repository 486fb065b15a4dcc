-- Columns that are filled, a record at a time.
use Rattle.std.proofs.Common.{◌≡◌, ◌≢◌, ◌⊎◌, ◌<◌, ◌≤◌, ◌+◌, inl, inr, ℕ, zero, suc, List, [], ◌∷◌, ◌++◌, map, length, take, set, get_or, Option, Some, None, refl, sym, ap, ◌∙◌, subst, arith, get_or-set_other, get_or-set_same}
use Rattle.std.specs.List.{range_with_len, zip}
use Rattle.std.proofs.lemmas.Bool.{cases_eq, cases_lt}
use Rattle.std.proofs.lemmas.Grind.{common_steps, take-set_at}
use Rattle.std.proofs.lemmas.List.{get_or-map, length-map, map-set, set-get_or}
use Rattle.std.proofs.lemmas.List.FromFn.{map-range_with_len_more}
use Rattle.csv.specs.Records.{field_at}
use Rattle.kl_base.specs.Fields.{field}
use Rattle.kl_value.specs.declared.Value.{Value}
use Rattle.kl_value.specs.declared.Value.TheVariants as value
use Rattle.kl_outcome.specs.Outcome.{Name}
use Rattle.kl_type.specs.declared.ground.Ty.{Ty}
use Rattle.kl_flat.specs.Cells.{cell_value}
use Rattle.kl_flat.specs.ColumnTable.{rows_of}
use Rattle.kl_flat.specs.Filling.{AddsRow, Gains, KeepsRows, LacksRow}
use Rattle.kl_flat.specs.Held.{columns_in, fields_at, height, row_at, type_of, value_at}
use Rattle.kl_flat.specs.Places.{ArePlaces}
use Rattle.kl_flat.specs.Table.{Record, all_of, part_in}
use Rattle.kl_flat.specs.declared.column_table.ColumnTable.{ColumnTable}
use Rattle.kl_flat.specs.declared.held.Column.{Column}
use Rattle.kl_flat.proofs.Rows.{cell_in, no_row, one_more, part_is, part_none, whole_row}

abbrev head : Column → Name × Ty
head c = (c.label, type_of c.cells)

abbrev part_at : ℕ → Column → Name × Value
part_at n c = (c.label, value_at c.cells n)

-- what a list says of its items stays where one is replaced by another of which the same is said
map_same : {A B : Type 0} (f : A → B) (xs : List A) (i : ℕ) (x d : A) → i < length xs → f x ≡ f (get_or xs i d) → map f (set xs i x) ≡ map f xs
map_same f xs i x d lt e =
    map-set f xs i x ∙ ap (set (map f xs) i) (e ∙ sym (get_or-map f xs i d (f d) lt)) ∙ set-get_or (map f xs) i (f d)

pub item_at : {A : Type 0} (xs : List A) (i : ℕ) → i < length xs → (x : A) × (x ≡ get_or xs i x)
item_at [] i lt = absurd (omega (arith, lt))
item_at (x ∷ xs) zero lt = (x, refl)
item_at (x ∷ xs) (suc i) lt = item_at xs i (omega (arith, lt))

-- so many columns have one row more than the others, and it holds what their cells mean
pub record Fills (header entry : Record) (n i : ℕ) (old new : List Column) : Type 0 where
  pub columns : columns_in new ≡ columns_in old
  pub before : (k : ℕ) → k < n → fields_at new k ≡ fields_at old k
  pub front : (k : ℕ) (d : Column) → k < length new → k < i → height (get_or new k d).cells ≡ n + 1
  pub back : (k : ℕ) (d : Column) → k < length new → i ≤ k → height (get_or new k d).cells ≡ n
  pub parts : all_of (map (part_in (zip header entry)) (take i (columns_in old))) ≡ Some (take i (fields_at new n))

module _ (header entry : Record) (n i : ℕ) (old new : List Column) (fills : Fills header entry n i old new) where
  keeps : KeepsRows n old new
  keeps = record {
    columns = fills.columns;
    before = fills.before;
    filled = λ k d lt. by k d lt (cases_lt k i);
  }
    where
      by : (k : ℕ) (d : Column) → k < length new → (k < i) ⊎ (i ≤ k) → n ≤ height (get_or new k d).cells
      by k d lt (inl few) = omega (arith, fills.front k d lt few)
      by k d lt (inr more) = omega (arith, fills.back k d lt more)

  same_size : length new ≡ length old
  same_size = sym (length-map new head) ∙ ap length fills.columns ∙ length-map old head

  -- the columns are all filled
  pub fills_all : length new ≤ i → length entry ≡ length header → AddsRow header entry n old new
  fills_all all size = record {
    keeps = keeps;
    level = λ k d lt. fills.front k d lt (omega arith);
    row = sym (whole_row (columns_in old) header entry size i (fields_at new n) (omega (arith, length-map old head, same_size)) (fills.parts ∙ ap Some whole));
  }
    where
      whole : take i (fields_at new n) ≡ fields_at new n
      whole = let few : length (fields_at new n) ≤ i = omega (arith, length-map new (part_at n)) in grind (arith, common_steps)

  module _ (places : List ℕ) (c : Column) (places_are : ArePlaces (columns_in old) header places) (size : length entry ≡ length header) (lt : i < length new) (is : c ≡ get_or new i c) where
    abbrev d : Name × Ty
    d = (c.label, type_of c.cells)

    lt_old : i < length (columns_in old)
    lt_old = omega (arith, lt, length-map old head, same_size)

    column_is : d ≡ get_or (columns_in old) i d
    column_is = ap head is ∙ sym (get_or-map head new i c d lt) ∙ ap (λ cs. get_or cs i d) fills.columns

    there : (cell : Option (List ℕ)) → field_at entry (get_or places i 0) ≡ cell → field c.label (zip header entry) ≡ cell
    there cell e = cell_in (columns_in old) header entry places i d places_are size lt_old column_is ∙ e

    -- the record has no cell there
    pub lacks_cell : field_at entry (get_or places i 0) ≡ None → LacksRow header entry n old new
    lacks_cell e = record { keeps = keeps; row = no_row (columns_in old) header entry size i d lt_old column_is (part_none (zip header entry) d (there None e)) }

    -- its cell has no value
    pub lacks_value : (cell : List ℕ) → field_at entry (get_or places i 0) ≡ Some cell → cell_value cell (type_of c.cells) ≡ None → LacksRow header entry n old new
    lacks_value cell e none = record { keeps = keeps; row = no_row (columns_in old) header entry size i d lt_old column_is (part_is (zip header entry) d cell None (there (Some cell) e) none) }

    -- one more column is filled
    pub fills_more : (cell : List ℕ) (c' : Column) → field_at entry (get_or places i 0) ≡ Some cell → c'.label ≡ c.label → Gains cell c.cells c'.cells → Fills header entry n (i + 1) old (set new i c')
    fills_more cell c' e label gains = record {
      columns = map_same head new i c' c lt ((λ j. (label j, gains.kind j)) ∙ ap head is) ∙ fills.columns;
      before = λ k few. map_same (part_at k) new i c' c lt ((λ j. (label j, gains.before k (omega (arith, tall, few)) j)) ∙ ap (part_at k) is) ∙ fills.before k few;
      front = λ k b few less. front k b few less (cases_eq k i);
      back = λ k b few more. back k b few more;
      parts = parts;
    }
      where
        tall : height c.cells ≡ n
        tall = ap (λ (c : Column). height c.cells) is ∙ fills.back i c lt (omega arith)

        taller : height c'.cells ≡ n + 1
        taller = gains.grown ∙ ap (λ k. k + 1) tall

        same_length : length (set new i c') ≡ length new
        same_length = grind (arith, common_steps)

        front : (k : ℕ) (b : Column) → k < length (set new i c') → k < i + 1 → (k ≡ i) ⊎ (k ≢ i) → height (get_or (set new i c') k b).cells ≡ n + 1
        front k b few less (inl e) = subst (λ k. height (get_or (set new i c') k b).cells ≡ n + 1) (sym e) (ap (λ (c : Column). height c.cells) (get_or-set_same new i c' b lt) ∙ taller)
        front k b few less (inr ne) = ap (λ (c : Column). height c.cells) (get_or-set_other new i k c' b ne) ∙ fills.front k b (omega (arith, same_length, few)) (omega (arith, ne, less))

        back : (k : ℕ) (b : Column) → k < length (set new i c') → i + 1 ≤ k → height (get_or (set new i c') k b).cells ≡ n
        back k b few more = ap (λ (c : Column). height c.cells) (get_or-set_other new i k c' b (omega arith)) ∙ fills.back k b (omega (arith, same_length, few)) (omega arith)

        part : part_in (zip header entry) d ≡ Some (c'.label, value_at c'.cells n)
        part = part_is (zip header entry) d cell (Some (value_at c'.cells (height c.cells))) (there (Some cell) e) gains.gained ∙ (λ j. Some (sym label j, value_at c'.cells (tall j)))

        parts : all_of (map (part_in (zip header entry)) (take (i + 1) (columns_in old))) ≡ Some (take (i + 1) (fields_at (set new i c') n))
        parts =
            one_more (columns_in old) header entry size i d (c'.label, value_at c'.cells n) (take i (fields_at new n)) lt_old column_is part fills.parts
            ∙ ap Some (sym (ap (take (i + 1)) (map-set (part_at n) new i c')
            ∙ take-set_at (fields_at new n) i (i + 1) (c'.label, value_at c'.cells n) refl (omega (arith, lt, length-map new (part_at n)))))

-- ---- the rows of columns

same_rows : {A : Type 0} (f g : ℕ → A) (a n : ℕ) → ((i : ℕ) → i < a + n → f i ≡ g i) → map f (range_with_len a n) ≡ map g (range_with_len a n)
same_rows f g a zero same = refl
same_rows f g a (suc n) same = (λ j. same a (omega arith) j ∷ same_rows f g (a + 1) n (λ i lt. same i (omega arith)) j)

pub rows_kept : (n : ℕ) (old new : List Column) → KeepsRows n old new → map (row_at new) (range_with_len 0 n) ≡ map (row_at old) (range_with_len 0 n)
rows_kept n old new keeps = same_rows (row_at new) (row_at old) 0 n (λ i lt. ap value.Rec (keeps.before i (omega arith)))

pub rows_more : (n : ℕ) (old new : List Column) → KeepsRows n old new → map (row_at new) (range_with_len 0 (n + 1)) ≡ map (row_at old) (range_with_len 0 n) ++ row_at new n ∷ []
rows_more n old new keeps = map-range_with_len_more (row_at new) 0 n n (omega arith) ∙ ap (λ rows. rows ++ row_at new n ∷ []) (rows_kept n old new keeps)

pub rows_stay : (t : ColumnTable) (n : ℕ) (old new : List Column) → t.columns.items ≡ new → t.len ≡ n → KeepsRows n old new → rows_of t ≡ map (row_at old) (range_with_len 0 n)
rows_stay t n old new columns len keeps = (λ j. map (row_at (columns j)) (range_with_len 0 (len j))) ∙ rows_kept n old new keeps
