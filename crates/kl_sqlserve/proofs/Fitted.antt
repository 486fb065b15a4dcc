-- The rows that a statement shows have the columns that it shows.
use Rattle.std.proofs.Common.{◌≡◌, ℕ, zero, suc, Bool, true, false, ◌&&◌, ◌||◌, List, [], ◌∷◌, map, filter, cond, Option, Some, None, refl, sym, ap, ◌∙◌, nat_eq, Ordering, Less, Equal, Greater}
use Rattle.std.specs.BTreeMap.{insert_entry}
use Rattle.std.specs.List.{AllByRecursion, list_all, flat_map}
use Rattle.std.specs.List.Sorted.{IsStrictlySortedBy}
use Rattle.std.specs.Ordering.{match_ordering, ordering_reverse}
use Rattle.std.specs.Cmp.Lexicographic.{pointwise, same_text}
use Rattle.std.proofs.lemmas.Bool.{and_parts}
use Rattle.std.proofs.lemmas.Cmp.{nat_list_cmp_total, nat_list_eq_equiv}
use Rattle.std.proofs.lemmas.List.Folds.{list_all-append}
use Rattle.kl_base.specs.Fields.{bytes_cmp, field, labels_of, LabelsRise}
use Rattle.kl_value.specs.Views.{field_layer}
use Rattle.kl_value.specs.declared.Value.{Value, Value-F, out-Value}
use Rattle.kl_value.specs.declared.Value.TheVariants as value
use Rattle.kl_type.specs.declared.ground.Ty.{Ty, out-Ty}
use Rattle.kl_outcome.specs.Outcome.{Name}
use Rattle.kl_ask.specs.Tables.{columns_of}
use Rattle.kl_flat.specs.ColumnTable.{rows_of}
use Rattle.kl_flat.specs.Columns.{is_table_type}
use Rattle.kl_flat.specs.Fitting.{all_fit, are_rows, fit_fields, fits_base, fits_layer}
use Rattle.kl_sqltext.specs.Grammar.{SqlColumn}
use Rattle.kl_sqltext.specs.Meaning.{Tuple, cell, shown_columns, shown_tuple, tuples, with_column}
use Rattle.kl_ask.specs.Driver.{same_value}
use Rattle.kl_sqlserve.specs.Left.{column_type, tables_of}
use Rattle.kl_sqlserve.specs.Repeats.{fresh, left_of_rows}
use Rattle.kl_sqlserve.specs.declared.side.Side.{Side}

abbrev Columns : Type 0
Columns = List (Name × Ty)

abbrev Fields : Type 0
Fields = List (Name × Value)

pub and_from : (a b : Bool) → a ≡ true → b ≡ true → (a && b) ≡ true
and_from a b e h = rw (e, h) refl

abbrev fits : Value → Ty → Bool
fits v t = fits_base (out-Value v) (out-Ty t)

-- ---- a column more

module _ (l : Name) (t : Ty) (v : Value) (fit : fits v t ≡ true) where
  itself : (m : Name) → pointwise nat_eq m m ≡ true
  itself m = nat_list_eq_equiv.refl m

  fits_put : (cs : Columns) (fs : Fields) → fit_fields cs fs ≡ true → fit_fields (insert_entry bytes_cmp cs l t) (insert_entry bytes_cmp fs l v) ≡ true
  fits_put [] [] e = and_from _ true (and_from _ _ (itself l) fit) refl
  fits_put [] (f ∷ fs) e = cc
  fits_put (c ∷ cs) [] e = cc
  fits_put (c ∷ cs) (f ∷ fs) e =
      let parts = and_parts (pointwise nat_eq f.0 c.0 && fits f.1 c.1) (fit_fields cs fs) e in
      let here = and_parts (pointwise nat_eq f.0 c.0) (fits f.1 c.1) parts.0 in
      let label : c.0 ≡ f.0 = sym (same_text f.0 c.0 (sym here.0)) in
      by (bytes_cmp l c.0) (bytes_cmp l f.0) (ap (bytes_cmp l) label) here.0 here.1 parts.1 (fits_put cs fs parts.1)
    where
      by : (o p : Ordering) → o ≡ p → pointwise nat_eq f.0 c.0 ≡ true → fits f.1 c.1 ≡ true → fit_fields cs fs ≡ true → fit_fields (insert_entry bytes_cmp cs l t) (insert_entry bytes_cmp fs l v) ≡ true
          → fit_fields (match_ordering o ((l, t) ∷ c ∷ cs) ((c.0, t) ∷ cs) (c ∷ insert_entry bytes_cmp cs l t)) (match_ordering p ((l, v) ∷ f ∷ fs) ((f.0, v) ∷ fs) (f ∷ insert_entry bytes_cmp fs l v)) ≡ true
      by Less Less is label value others more = and_from _ _ (and_from _ _ (itself l) fit) (and_from _ _ (and_from _ _ label value) others)
      by Equal Equal is label value others more = and_from _ _ (and_from _ _ label fit) others
      by Greater Greater is label value others more = and_from _ _ (and_from _ _ label value) more
      by Less Equal is label value others more = absurd cc
      by Less Greater is label value others more = absurd cc
      by Equal Less is label value others more = absurd cc
      by Equal Greater is label value others more = absurd cc
      by Greater Less is label value others more = absurd cc
      by Greater Equal is label value others more = absurd cc

-- a column has a type where a row has a value there, which is of that type
abbrev BothFit : Option Ty → Option Value → Type 0
BothFit None None = Unit {0}
BothFit (Some t) (Some v) = fits v t ≡ true
BothFit None (Some v) = ⊥
BothFit (Some t) None = ⊥

put_both : (l : Name) (a : Option Ty) (b : Option Value) (cs : Columns) (fs : Fields) → BothFit a b → fit_fields cs fs ≡ true → fit_fields (with_column l a cs) (with_column l b fs) ≡ true
put_both l None None cs fs both e = e
put_both l (Some t) (Some v) cs fs both e = fits_put l t v both cs fs e
put_both l None (Some v) cs fs both e = absurd both
put_both l (Some t) None cs fs both e = absurd both

field_both : (l : Name) (cs : Columns) (fs : Fields) → fit_fields cs fs ≡ true → BothFit (field l cs) (field l fs)
field_both l [] [] e = tt
field_both l [] (f ∷ fs) e = cc
field_both l (c ∷ cs) [] e = cc
field_both l (c ∷ cs) (f ∷ fs) e =
    let parts = and_parts (pointwise nat_eq f.0 c.0 && fits f.1 c.1) (fit_fields cs fs) e in
    let here = and_parts (pointwise nat_eq f.0 c.0) (fits f.1 c.1) parts.0 in
    let label : f.0 ≡ c.0 = same_text f.0 c.0 (sym here.0) in
    by (pointwise nat_eq l c.0) (pointwise nat_eq l f.0) (ap (pointwise nat_eq l) (sym label)) here.1 (field_both l cs fs parts.1)
  where
    by : (a b : Bool) → a ≡ b → fits f.1 c.1 ≡ true → BothFit (field l cs) (field l fs) → BothFit (cond a (Some c.1) (field l cs)) (cond b (Some f.1) (field l fs))
    by true true is fit more = fit
    by false false is fit more = more
    by true false is fit more = absurd cc
    by false true is fit more = absurd cc

row_both : (l : Name) (cs : Columns) (x : Value-F Value) → fits_layer cs x ≡ true → BothFit (field l cs) (field_layer l x)
row_both l cs (Value-F.Rec fs) e = field_both l cs fs e
row_both l cs (Value-F.Bool b) e = cc
row_both l cs (Value-F.Int n) e = cc
row_both l cs (Value-F.Text s) e = cc
row_both l cs (Value-F.Inj m v) e = cc
row_both l cs (Value-F.Set vs) e = cc
row_both l cs (Value-F.Bag vs) e = cc
row_both l cs (Value-F.List vs) e = cc

-- ---- tuples of rows of the tables

abbrev row_fits : Side → Value → Bool
row_fits s row = fits_layer (columns_of s.ty) (out-Value row)

abbrev tuple_fits : List Side → Tuple → Bool
tuple_fits [] [] = true
tuple_fits (s ∷ sides) (row ∷ t) = row_fits s row && tuple_fits sides t
tuple_fits [] (row ∷ t) = false
tuple_fits (s ∷ sides) [] = false

cell_both : (sides : List Side) (t : Tuple) (i : ℕ) (l : Name) → tuple_fits sides t ≡ true → BothFit (column_type sides i l) (cell t i l)
cell_both [] [] i l e = tt
cell_both [] (row ∷ t) i l e = cc
cell_both (s ∷ sides) [] i l e = cc
cell_both (s ∷ sides) (row ∷ t) zero l e = row_both l (columns_of s.ty) (out-Value row) (and_parts (row_fits s row) (tuple_fits sides t) e).0
cell_both (s ∷ sides) (row ∷ t) (suc i) l e = cell_both sides t i l (and_parts (row_fits s row) (tuple_fits sides t) e).1

fields_fit : (sides : List Side) (t : Tuple) → tuple_fits sides t ≡ true → (cs : List SqlColumn) → fit_fields (shown_columns (column_type sides) cs) (shown_columns (cell t) cs) ≡ true
fields_fit sides t e [] = refl
fields_fit sides t e (c ∷ cs) = put_both c.2 (column_type sides c.0 c.1) (cell t c.0 c.1) (shown_columns (column_type sides) cs) (shown_columns (cell t) cs) (cell_both sides t c.0 c.1 e) (fields_fit sides t e cs)

shown_fits : (sides : List Side) (t : Tuple) (cs : List SqlColumn) → tuple_fits sides t ≡ true → fits_layer (shown_columns (column_type sides) cs) (out-Value (shown_tuple cs t)) ≡ true
shown_fits sides t cs e = ap (fits_layer (shown_columns (column_type sides) cs)) (value.outs-Rec (shown_columns (cell t) cs)) ∙ fields_fit sides t e cs

with_row : (s : Side) (sides : List Side) (row : Value) (ts : List Tuple) → row_fits s row ≡ true → list_all (tuple_fits sides) ts ≡ true → list_all (tuple_fits (s ∷ sides)) (map (λ t. row ∷ t) ts) ≡ true
with_row s sides row [] fit e = refl
with_row s sides row (t ∷ ts) fit e =
    let parts = and_parts (tuple_fits sides t) (list_all (tuple_fits sides) ts) e in
    and_from _ _ (and_from _ _ fit parts.0) (with_row s sides row ts fit parts.1)

with_rows : (s : Side) (sides : List Side) (ts : List Tuple) → list_all (tuple_fits sides) ts ≡ true → (rows : List Value) → all_fit (columns_of s.ty) rows ≡ true → list_all (tuple_fits (s ∷ sides)) (flat_map (λ row. map (λ t. row ∷ t) ts) rows) ≡ true
with_rows s sides ts e [] fit = refl
with_rows s sides ts e (row ∷ rows) fit =
    let parts = and_parts (row_fits s row) (all_fit (columns_of s.ty) rows) fit in
    list_all-append (tuple_fits (s ∷ sides)) (map (λ t. row ∷ t) ts) (flat_map (λ row. map (λ t. row ∷ t) ts) rows) ∙ and_from _ _ (with_row s sides row ts parts.0 e) (with_rows s sides ts e rows parts.1)

rows_fit : (t : Ty) (rows : List Value) → are_rows t rows ≡ true → all_fit (columns_of t) rows ≡ true
rows_fit t rows e = (and_parts _ (all_fit (columns_of t) rows) (and_parts (is_table_type t) _ e).1).1

tuples_fit : (sides : List Side) → list_all (tuple_fits sides) (tuples (tables_of sides)) ≡ true
tuples_fit [] = refl
tuples_fit (s ∷ sides) = with_rows s sides (tuples (tables_of sides)) (tuples_fit sides) (rows_of s.index.table) (rows_fit s.ty (rows_of s.index.table) s.typed)

all_shown : (sides : List Side) (cs : List SqlColumn) (keep : Tuple → Bool) (ts : List Tuple) → list_all (tuple_fits sides) ts ≡ true → all_fit (shown_columns (column_type sides) cs) (map (shown_tuple cs) (filter keep ts)) ≡ true
all_shown sides cs keep [] e = refl
all_shown sides cs keep (t ∷ ts) e =
    let parts = and_parts (tuple_fits sides t) (list_all (tuple_fits sides) ts) e in
    by (keep t) refl (shown_fits sides t cs parts.0) (all_shown sides cs keep ts parts.1)
  where
    by : (b : Bool) → keep t ≡ b → fits_layer (shown_columns (column_type sides) cs) (out-Value (shown_tuple cs t)) ≡ true → all_fit (shown_columns (column_type sides) cs) (map (shown_tuple cs) (filter keep ts)) ≡ true → all_fit (shown_columns (column_type sides) cs) (map (shown_tuple cs) (filter keep (t ∷ ts))) ≡ true
    by true is here more = rw is (and_from _ _ here more)
    by false is here more = rw is more

-- whatever tuples of these tables are shown
pub shown_all : (sides : List Side) (cs : List SqlColumn) (keep : Tuple → Bool) → all_fit (shown_columns (column_type sides) cs) (map (shown_tuple cs) (filter keep (tuples (tables_of sides)))) ≡ true
shown_all sides cs keep = all_shown sides cs keep (tuples (tables_of sides)) (tuples_fit sides)

-- ---- fewer rows

pub fresh_fit : (cs : Columns) (seen : Value → Bool) (vs : List Value) → all_fit cs vs ≡ true → all_fit cs (fresh seen vs) ≡ true
fresh_fit cs seen [] e = refl
fresh_fit cs seen (v ∷ vs) e =
    let parts = and_parts (fits_layer cs (out-Value v)) (all_fit cs vs) e in
    by (seen v) refl (fresh_fit cs seen vs parts.1) (and_from _ _ parts.0 (fresh_fit cs (λ w. same_value v w || seen w) vs parts.1))
  where
    by : (b : Bool) → seen v ≡ b → all_fit cs (fresh seen vs) ≡ true → all_fit cs (v ∷ fresh (λ w. same_value v w || seen w) vs) ≡ true → all_fit cs (fresh seen (v ∷ vs)) ≡ true
    by true is old new = rw is old
    by false is old new = rw is new

pub left_fit : (cs : Columns) (d : Bool) (seen : Value → Bool) (vs : List Value) → all_fit cs vs ≡ true → all_fit cs (left_of_rows d seen vs) ≡ true
left_fit cs true seen vs e = fresh_fit cs seen vs e
left_fit cs false seen vs e = e

-- ---- the columns rise

pub above_all : (l m : Name) (ls : List Name) → bytes_cmp l m ≡ Less → AllByRecursion (λ k. bytes_cmp m k ≡ Less) ls → AllByRecursion (λ k. bytes_cmp l k ≡ Less) ls
above_all l m [] is all = tt
above_all l m (k ∷ ls) is all = (nat_list_cmp_total.trans l m k is all.0, above_all l m ls is all.1)

module _ {T : Type 0} (l : Name) (t : T) where
  -- what holds of all labels and of one more
  pub all_put : (P : Name → Type 0) (cs : List (Name × T)) → AllByRecursion P (labels_of cs) → P l → AllByRecursion P (labels_of (insert_entry bytes_cmp cs l t))
  all_put P [] all is = (is, tt)
  all_put P (c ∷ cs) all is = by (bytes_cmp l c.0) (all_put P cs all.1 is)
    where
      by : (o : Ordering) → AllByRecursion P (labels_of (insert_entry bytes_cmp cs l t)) → AllByRecursion P (labels_of (match_ordering o ((l, t) ∷ c ∷ cs) ((c.0, t) ∷ cs) (c ∷ insert_entry bytes_cmp cs l t)))
      by Less more = (is, all)
      by Equal more = all
      by Greater more = (all.0, more)

  pub rise_put : (cs : List (Name × T)) → LabelsRise cs → LabelsRise (insert_entry bytes_cmp cs l t)
  unfolding IsStrictlySortedBy
  rise_put [] up = (tt, tt)
  rise_put (c ∷ cs) up = by (bytes_cmp l c.0) refl (rise_put cs up.1)
    where
      by : (o : Ordering) → bytes_cmp l c.0 ≡ o → LabelsRise (insert_entry bytes_cmp cs l t) → LabelsRise (match_ordering o ((l, t) ∷ c ∷ cs) ((c.0, t) ∷ cs) (c ∷ insert_entry bytes_cmp cs l t))
      by Less is more = ((is, above_all l c.0 (labels_of cs) is up.0), up)
      by Equal is more = up
      by Greater is more = (all_put (λ k. bytes_cmp c.0 k ≡ Less) cs up.0 (nat_list_cmp_total.antisymm c.0 l ∙ ap ordering_reverse is), more)

pub columns_rise : (sides : List Side) (cs : List SqlColumn) → LabelsRise (shown_columns (column_type sides) cs)
unfolding IsStrictlySortedBy
columns_rise sides [] = tt
columns_rise sides (c ∷ cs) = by (column_type sides c.0 c.1) (columns_rise sides cs)
  where
    by : (o : Option Ty) → LabelsRise (shown_columns (column_type sides) cs) → LabelsRise (with_column c.2 o (shown_columns (column_type sides) cs))
    by None up = up
    by (Some t) up = rise_put c.2 t (shown_columns (column_type sides) cs) up
