-- The rows of a table are canonical records of its type.
use Rattle.std.proofs.Common.{◌≡◌, ℕ, Bool, true, false, ◌&&◌, List, [], ◌∷◌, map, length, cond, nat_eq, Option, Some, None, IsSome, refl, ap, sym, ◌∙◌, subst, ⊎_elim, ℤ}
use Rattle.std.specs.Option.{option_map}
use Rattle.std.specs.List.{AllByRecursion, zip}
use Rattle.std.specs.List.Sorted.{IsStrictlySortedBy}
use Rattle.std.specs.Cmp.Lexicographic.{pointwise, same_text}
use Rattle.kl_ask.specs.Asks.{item_of}
use Rattle.kl_flat.proofs.Suiting.{item_is}
use Rattle.std.specs.declared.cmp.Ordering.TheVariants.{Less}
use Rattle.std.specs.declared.cmp.Ordering.{Ordering}
use Rattle.std.specs.Ordering.{is_lt}
use Rattle.std.proofs.lemmas.Bool.{and_parts, and_from}
use Rattle.std.proofs.lemmas.Option.{same_Some}
use Rattle.kl_base.proofs.FieldsLemmas.{rise_strictly}
use Rattle.kl_flat.specs.Fitting.{all_fit, are_rows, fit_fields, fits_base, fits_layer}
use Rattle.kl_base.specs.Fields.{bytes_cmp, field, labels_of, rises, rises_from, LabelsRise}
use Rattle.kl_value.specs.IsCanonical.{IsCanonical}
use Rattle.kl_value.specs.Views.{bool_layer, int_layer, bytes_layer}
use Rattle.kl_value.specs.declared.Value.{Value, Value-F, out-Value, roll-Value, roll-out-Value}
use Rattle.kl_value.specs.declared.Value.TheVariants as value
use Rattle.kl_value.proofs.IsCanonicalLemmas.{bool_made, int_made, text_made, record_made}
use Rattle.kl_prim.specs.Meaning.{number_in}
use Rattle.kl_type.specs.Ground.{bool, int, str, rec, row_by, ground_of, IsBefore, IsGround, IsProper, IsRow}
use Rattle.kl_type.specs.declared.ground.Ty.{Ty, Ty-F, out-Ty, roll-Ty, roll-out-Ty}
use Rattle.kl_type.specs.declared.ground.Ty.TheVariants as ty
use Rattle.kl_type.proofs.GroundLemmas.{ground-Bool, ground-Int, ground-Str, ground-Rec, ground-Coll}
use Rattle.kl_type.proofs.RowLemmas.{at_here, at_there, same_label, told}
use Rattle.kl_outcome.specs.Typed.{HasFields, Inhabits}
use Rattle.kl_flat.specs.Cells.{cell_layer, cell_value, without_blanks}
use Rattle.kl_ask.specs.Tables.{columns_of, fields_layer, items_layer}
use Rattle.kl_flat.specs.Columns.{is_table_type}
use Rattle.kl_flat.specs.Table.{Columns, Record, all_of, front_of, part_in, row_in, rows_in, table_records, table_rows, is_header}

-- ---- the rows of a table fit its columns

value_fits : (v : Value) (y : Value-F Value) (x : Ty-F Ty) → out-Value v ≡ y → fits_base y x ≡ true → (w : Value) → v ≡ w → fits_base (out-Value w) x ≡ true
value_fits v y x e h w same = ap (λ u. fits_base (out-Value u) x) (sym same) ∙ ap (λ z. fits_base z x) e ∙ h

truth_fits : (x y : Bool) (v : Value) → cond x (Some (value.Bool true)) (cond y (Some (value.Bool false)) None) ≡ Some v → fits_base (out-Value v) Ty-F.Bool ≡ true
truth_fits true y v e = value_fits (value.Bool true) (Value-F.Bool true) Ty-F.Bool (value.outs-Bool true) refl v (same_Some _ _ e)
truth_fits false true v e = value_fits (value.Bool false) (Value-F.Bool false) Ty-F.Bool (value.outs-Bool false) refl v (same_Some _ _ e)
truth_fits false false v e = cc

number_fits : (o : Option ℤ) (v : Value) → option_map value.Int o ≡ Some v → fits_base (out-Value v) Ty-F.Int ≡ true
number_fits (Some n) v e = value_fits (value.Int n) (Value-F.Int n) Ty-F.Int (value.outs-Int n) refl v (same_Some _ _ e)
number_fits None v e = cc

cell_fits : (bs : List ℕ) (x : Ty-F Ty) (v : Value) → cell_layer bs x ≡ Some v → fits_base (out-Value v) x ≡ true
cell_fits bs Ty-F.Bool v e = truth_fits _ _ v e
cell_fits bs Ty-F.Int v e = number_fits (number_in (without_blanks bs)) v e
cell_fits bs Ty-F.Str v e = value_fits (value.Text bs) (Value-F.Text bs) Ty-F.Str (value.outs-Text bs) refl v (same_Some _ _ e)
cell_fits bs x v e = cc

part_fits : (cells : List (List ℕ × List ℕ)) (c : List ℕ × Ty) (f : List ℕ × Value) → part_in cells c ≡ Some f → (pointwise nat_eq f.0 c.0 ≡ true) × (fits_base (out-Value f.1) (out-Ty c.1) ≡ true)
part_fits cells c f e = by (field c.0 cells) refl
  where
    found : (bs : List ℕ) (o : Option Value) → cell_value bs c.1 ≡ o → option_map (λ v. (c.0, v)) o ≡ Some f → (pointwise nat_eq f.0 c.0 ≡ true) × (fits_base (out-Value f.1) (out-Ty c.1) ≡ true)
    found bs (Some v) is h =
        let same : (c.0, v) ≡ f = same_Some _ _ h in
        (subst (λ (g : List ℕ × Value). pointwise nat_eq g.0 c.0 ≡ true) same (same_label c.0), subst (λ (g : List ℕ × Value). fits_base (out-Value g.1) (out-Ty c.1) ≡ true) same (cell_fits bs (out-Ty c.1) v is))
    found bs None is h = cc

    by : (o : Option (List ℕ)) → field c.0 cells ≡ o → (pointwise nat_eq f.0 c.0 ≡ true) × (fits_base (out-Value f.1) (out-Ty c.1) ≡ true)
    by None is = let bad = rw is at e in cc
    by (Some bs) is = found bs (cell_value bs c.1) refl (rw is at e)

parts_fit : (cells : List (List ℕ × List ℕ)) (columns : Columns) (fs : List (List ℕ × Value)) → all_of (map (part_in cells) columns) ≡ Some fs → fit_fields columns fs ≡ true
parts_fit cells [] fs e = let none : [] ≡ fs = same_Some _ _ e in subst (λ gs. fit_fields [] gs ≡ true) none refl
parts_fit cells (c ∷ columns) fs e = by (part_in cells c) refl (λ gs more. parts_fit cells columns gs more)
  where
    rest : ((gs : List (List ℕ × Value)) → all_of (map (part_in cells) columns) ≡ Some gs → fit_fields columns gs ≡ true) → (f : List ℕ × Value) → part_in cells c ≡ Some f → (o : Option (List (List ℕ × Value))) → all_of (map (part_in cells) columns) ≡ o → option_map (λ xs. f ∷ xs) o ≡ Some fs → fit_fields (c ∷ columns) fs ≡ true
    rest later f is None more h = cc
    rest later f is (Some gs) more h =
        let here = part_fits cells c f is in
        let same : f ∷ gs ≡ fs = same_Some _ _ h in
        subst (λ hs. fit_fields (c ∷ columns) hs ≡ true) same (and_from _ _ (and_from _ _ here.0 here.1) (later gs more))

    by : (o : Option (List ℕ × Value)) → part_in cells c ≡ o → ((gs : List (List ℕ × Value)) → all_of (map (part_in cells) columns) ≡ Some gs → fit_fields columns gs ≡ true) → fit_fields (c ∷ columns) fs ≡ true
    by None is later = let bad = rw is at e in cc
    by (Some f) is later = rest later f is (all_of (map (part_in cells) columns)) refl (rw is at e)

row_fits : (columns : Columns) (header entry : Record) (v : Value) → row_in columns header entry ≡ Some v → fits_layer columns (out-Value v) ≡ true
row_fits columns header entry v e = by (nat_eq (length entry) (length header)) refl
  where
    made : (o : Option (List (List ℕ × Value))) → all_of (map (part_in (zip header entry)) columns) ≡ o → option_map value.Rec o ≡ Some v → fits_layer columns (out-Value v) ≡ true
    made None is h = cc
    made (Some fs) is h =
        let same : value.Rec fs ≡ v = same_Some _ _ h in
        subst (λ w. fits_layer columns (out-Value w) ≡ true) same (ap (fits_layer columns) (value.outs-Rec fs) ∙ parts_fit (zip header entry) columns fs is)

    by : (b : Bool) → nat_eq (length entry) (length header) ≡ b → fits_layer columns (out-Value v) ≡ true
    by false is = let bad = rw is at e in cc
    by true is = made (all_of (map (part_in (zip header entry)) columns)) refl (rw is at e)

front_fits : (columns : Columns) (header : Record) (rs : List Record) → all_fit columns (front_of (map (row_in columns header) rs)) ≡ true
front_fits columns header [] = refl
front_fits columns header (r ∷ rs) = by (row_in columns header r) refl (front_fits columns header rs)
  where
    by : (o : Option Value) → row_in columns header r ≡ o → all_fit columns (front_of (map (row_in columns header) rs)) ≡ true → all_fit columns (front_of (map (row_in columns header) (r ∷ rs))) ≡ true
    by None is later = rw is refl
    by (Some v) is later = rw is (and_from _ _ (row_fits columns header r v is) later)

rows_fit : (columns : Columns) (rs : List Record) → all_fit columns (rows_in columns rs) ≡ true
rows_fit columns [] = refl
rows_fit columns (header ∷ rs) = by (is_header columns header) refl
  where
    by : (b : Bool) → is_header columns header ≡ b → all_fit columns (rows_in columns (header ∷ rs)) ≡ true
    by true is = rw is (front_fits columns header rs)
    by false is = rw is refl

-- ---- what fits has the type

base_by : (y : Value-F Value) (x : Ty-F Ty) → fits_base y x ≡ true → Inhabits (ground_of (roll-Ty x)) (roll-Value y)
base_by (Value-F.Bool b) Ty-F.Bool e = subst (λ g. Inhabits g (roll-Value (Value-F.Bool b))) (sym (ap ground_of ty.rolls-Bool ∙ ground-Bool)) (subst (Inhabits bool) (sym (value.rolls-Bool b)) (subst IsSome (sym (ap bool_layer (value.outs-Bool b))) refl, bool_made b))
base_by (Value-F.Int n) Ty-F.Int e = subst (λ g. Inhabits g (roll-Value (Value-F.Int n))) (sym (ap ground_of ty.rolls-Int ∙ ground-Int)) (subst (Inhabits int) (sym (value.rolls-Int n)) (subst IsSome (sym (ap int_layer (value.outs-Int n))) refl, int_made n))
base_by (Value-F.Text t) Ty-F.Str e = subst (λ g. Inhabits g (roll-Value (Value-F.Text t))) (sym (ap ground_of ty.rolls-Str ∙ ground-Str)) (subst (Inhabits str) (sym (value.rolls-Text t)) (subst IsSome (sym (ap bytes_layer (value.outs-Text t))) refl, text_made t))
base_by _ _ e = cc

base_has : (v : Value) (t : Ty) → fits_base (out-Value v) (out-Ty t) ≡ true → Inhabits (ground_of t) v
base_has v t e = subst (Inhabits (ground_of t)) (roll-out-Value v) (subst (λ u. Inhabits (ground_of u) (roll-Value (out-Value v))) (roll-out-Ty t) (base_by (out-Value v) (out-Ty t) e))

abbrev GoodFields : Columns → List (List ℕ × Value) → Type 0
GoodFields columns fs = HasFields (row_by ground_of columns) fs × AllByRecursion (λ f. IsCanonical f.1) fs × (labels_of fs ≡ labels_of columns)

fields_good : (columns : Columns) (fs : List (List ℕ × Value)) → fit_fields columns fs ≡ true → GoodFields columns fs
fields_good [] [] e = (refl, tt, refl)
fields_good [] (f ∷ fs) e = cc
fields_good (c ∷ columns) [] e = cc
fields_good (c ∷ columns) (f ∷ fs) e =
    let parts = and_parts (pointwise nat_eq f.0 c.0 && fits_base (out-Value f.1) (out-Ty c.1)) (fit_fields columns fs) e in
    let here = and_parts (pointwise nat_eq f.0 c.0) (fits_base (out-Value f.1) (out-Ty c.1)) parts.0 in
    let label : f.0 ≡ c.0 = same_text f.0 c.0 (sym here.0) in
    let value = base_has f.1 c.1 here.1 in
    let good = fields_good columns fs parts.1 in (
      (f.1, fs, ap (λ l. (l, f.1) ∷ fs) label, value.0, good.0),
      (value.1, good.1),
      (λ i. label i ∷ good.2 i),
    )

row_good : (columns : Columns) (v : Value) → LabelsRise columns → (y : Value-F Value) → fits_layer columns y ≡ true → Inhabits (rec (row_by ground_of columns)) (roll-Value y)
row_good columns v up (Value-F.Rec fs) e =
    let good = fields_good columns fs e in
    subst (Inhabits (rec (row_by ground_of columns))) (sym (value.rolls-Rec fs)) ((fs, refl, good.0), record_made fs good.1 (subst (IsStrictlySortedBy bytes_cmp) (sym good.2) up))
row_good columns v up _ e = cc

pub rows_good : (columns : Columns) → LabelsRise columns → (rows : List Value) → all_fit columns rows ≡ true → AllByRecursion (Inhabits (rec (row_by ground_of columns))) rows
rows_good columns up [] e = tt
rows_good columns up (v ∷ rows) e =
    let parts = and_parts (fits_layer columns (out-Value v)) (all_fit columns rows) e in
    (subst (Inhabits (rec (row_by ground_of columns))) (roll-out-Value v) (row_good columns v up (out-Value v) parts.0), rows_good columns up rows parts.1)

-- ---- labels of a proper type

above : (l : List ℕ) (cs : Columns) → IsBefore l (row_by ground_of cs) → AllByRecursion (λ m. bytes_cmp l m ≡ Less) (labels_of cs)
above l [] h = tt
above l (c ∷ cs) h =
    (h c.0 (ground_of c.1) (at_here c.0 c.0 _ _ refl), above l cs (λ m t e. ⊎_elim (λ same. h m (ground_of c.1) (at_here m c.0 _ _ same.1)) (λ other. h m t (at_there m c.0 _ _ other.1 ∙ e)) (told m c.0)))

labels_up : (columns : Columns) → IsRow (row_by ground_of columns) → LabelsRise columns
unfolding IsStrictlySortedBy
labels_up [] good = tt
labels_up (c ∷ columns) good = (above c.0 columns good.0, labels_up columns good.2)

fields_up : (x : Ty-F Ty) → IsGround (ground_of (roll-Ty x)) → LabelsRise (fields_layer x)
unfolding IsStrictlySortedBy
fields_up (Ty-F.Rec fs) h = labels_up fs (subst IsGround (ap ground_of (ty.rolls-Rec fs) ∙ ground-Rec fs) h)
fields_up x h = tt

items_up : (x : Ty-F Ty) → IsGround (ground_of (roll-Ty x)) → LabelsRise (items_layer x)
unfolding IsStrictlySortedBy
items_up (Ty-F.Coll k t) h =
    fields_up (out-Ty t) (subst (λ u. IsGround (ground_of u)) (sym (roll-out-Ty t)) (subst IsGround (ap ground_of (ty.rolls-Coll k t) ∙ ground-Coll k t) h))
items_up x h = tt

pub columns_up : (t : Ty) → IsProper t → LabelsRise (columns_of t)
columns_up t h = items_up (out-Ty t) (subst (λ u. IsGround (ground_of u)) (sym (roll-out-Ty t)) h)

is_less : (o : Ordering) → o ≡ Less → is_lt o ≡ true
is_less o e = rw e refl

rises_after : (l : List ℕ) (ls : List (List ℕ)) → AllByRecursion (λ m. bytes_cmp l m ≡ Less) ls → IsStrictlySortedBy bytes_cmp ls → rises_from l ls ≡ true
unfolding IsStrictlySortedBy
rises_after l [] all up = refl
rises_after l (m ∷ ls) all up = and_from _ _ (is_less _ all.0) (rises_after m ls up.0 up.1)

rises_is : (ls : List (List ℕ)) → IsStrictlySortedBy bytes_cmp ls → rises ls ≡ true
unfolding IsStrictlySortedBy
rises_is [] up = refl
rises_is (l ∷ ls) up = rises_after l ls up.0 up.1

-- the rows of a table are rows of its type, which have the type of its items
pub are_table_rows : (bytes : List ℕ) (t : Ty) → is_table_type t ≡ true → IsProper t → are_rows t (table_rows bytes t) ≡ true
are_table_rows bytes t suits h = and_from _ _ suits (and_from _ _ (rises_is (labels_of (columns_of t)) (columns_up t h)) (rows_fit (columns_of t) (table_records bytes)))

pub rows_suit : (t : Ty) (rows : List Value) → are_rows t rows ≡ true → is_table_type t ≡ true
rows_suit t rows e = (and_parts (is_table_type t) _ e).0

pub rows_typed : (t : Ty) (rows : List Value) → are_rows t rows ≡ true → AllByRecursion (Inhabits (item_of (ground_of t))) rows
rows_typed t rows e =
    let parts = and_parts (is_table_type t) _ e in
    let rest = and_parts (rises (labels_of (columns_of t))) (all_fit (columns_of t) rows) parts.1 in
    subst (λ g. AllByRecursion (Inhabits g) rows) (sym (item_is t parts.0)) (rows_good (columns_of t) (rise_strictly (labels_of (columns_of t)) rest.0) rows rest.1)
