-- Asks for whole rows without tests.
use Rattle.std.proofs.Common.{◌≡◌, ◌==◌, Bool, true, false, ◌||◌, length, cond, nat_eq, List, [], ◌∷◌, Option, Some, None, IsSome, refl, sym, ap, subst, ◌∙◌, arith}
use Rattle.std.specs.Prelude.{filter}
use Rattle.std.specs.List.{AllByRecursion}
use Rattle.std.specs.List.Sorted.{IsStrictlySortedBy}
use Rattle.std.specs.Cmp.Lexicographic.{pointwise}
use Rattle.std.proofs.lemmas.Bool.{and_parts}
use Rattle.std.proofs.lemmas.Bool.Decides.{nat_tests}
use Rattle.std.proofs.lemmas.Cmp.{nat_list_eq_equiv}
use Rattle.std.proofs.lemmas.List.Sorted.{Contains-permutation, IsPermutation-refl, IsPermutation-sym, sum_by-IsPermutation}
use Rattle.kl_base.specs.Fields.{bytes_cmp, labels_of}
use Rattle.kl_value.specs.Canon.{canonical}
use Rattle.kl_value.specs.Views.{bool_layer, int_layer, bytes_layer, collection}
use Rattle.kl_value.specs.declared.Kind.{Kind}
use Rattle.kl_value.specs.declared.Kind.TheVariants as kind
use Rattle.kl_value.specs.declared.Value.{Value, Value-F, out-Value}
use Rattle.kl_value.specs.declared.Value.TheVariants as value
use Rattle.kl_value.proofs.CanonLemmas.{canonical_is, canonical_only}
use Rattle.kl_type.specs.Ground.{Ground, Row, bool, int, str, rec, var, coll, arrow, no_row, row, at, IsGround, IsProper, ground_of, labels_in}
use Rattle.kl_type.proofs.RowLemmas.{labels_rise}
use Rattle.kl_type.specs.declared.Ty.{Ty}
use Rattle.kl_outcome.specs.Outcome.{Name, as_record, record_layer}
use Rattle.kl_outcome.specs.Typed.{Has, Inhabits}
use Rattle.kl_ask.specs.Asks.{item_of, kind_of, columns, column, is_kept, shown_fields, shown, answers, shown_row, shown_type, is_allowed, same_names}
use Rattle.kl_ask.specs.Driver.{State, Source, IsColl, CanStart, InOrder}
use Rattle.kl_ask.specs.declared.ask.Abilities.{Abilities}
use Rattle.kl_ask.specs.declared.ask.Ask.TheVariants as asks
use Rattle.kl_ask.specs.declared.ask.ColTest.{ColTest}
use Rattle.kl_ask.proofs.Equal.{same_names as names_decide}
use Rattle.kl_outcome.proofs.OutcomeTypes.{labels_same}
use Rattle.kl_base.proofs.Each.{all_map}

or_true : (b c : Bool) → c ≡ true → (b || c) ≡ true
or_true true c h = refl
or_true false c h = h

-- ---- all columns are kept

all_kept : (ls : List Name) → AllByRecursion (λ l. is_kept ls l ≡ true) ls
all_kept [] = tt
all_kept (l ∷ ls) = (rw (nat_list_eq_equiv.refl l) refl, all_map (λ m. is_kept ls m ≡ true) (λ m. is_kept (l ∷ ls) m ≡ true) ls (λ m h. or_true (pointwise nat_eq l m) (is_kept ls m) h) (all_kept ls))

row_kept : (keep : List Name) (r : Row) → AllByRecursion (λ l. is_kept keep l ≡ true) (labels_in r) → shown_row keep r ≡ r
row_kept keep no_row h = refl
row_kept keep (row l t r) h = rw h.0 (ap (row l t) (row_kept keep r h.1))

pub whole_type : (t : Ground) → shown_type (columns t) t ≡ t
whole_type (rec r) = ap rec (row_kept (labels_in r) r (all_kept (labels_in r)))
whole_type bool = refl
whole_type int = refl
whole_type str = refl
whole_type (var r) = refl
whole_type (coll k t) = refl
whole_type (arrow a b) = refl

fields_kept : (keep : List Name) (fs : List (Name × Value)) → AllByRecursion (λ l. is_kept keep l ≡ true) (labels_of fs) → filter (λ f. is_kept keep f.0) fs ≡ fs
fields_kept keep [] h = refl
fields_kept keep (f ∷ fs) h = rw h.0 (ap (λ gs. f ∷ gs) (fields_kept keep fs h.1))

no_bool : (x : Value-F Value) → IsSome (bool_layer x) → record_layer x ≡ None
no_bool (Value-F.Rec fs) h = cc
no_bool x h = refl

no_int : (x : Value-F Value) → IsSome (int_layer x) → record_layer x ≡ None
no_int (Value-F.Rec fs) h = cc
no_int x h = refl

no_text : (x : Value-F Value) → IsSome (bytes_layer x) → record_layer x ≡ None
no_text (Value-F.Rec fs) h = cc
no_text x h = refl

no_collection : (k : Kind) (vs : List Value) → as_record (collection k vs) ≡ None
no_collection kind.Set vs = ap record_layer (value.outs-Set vs)
no_collection kind.Bag vs = ap record_layer (value.outs-Bag vs)
no_collection kind.List vs = ap record_layer (value.outs-List vs)

pub whole_row : (t : Ground) (v : Value) → Has t v → shown (columns t) v ≡ v
whole_row (rec r) v h =
    let fs : List (Name × Value) = h.0 in
    let keep = labels_in r in
    let is : as_record v ≡ Some fs = ap as_record h.1 ∙ ap record_layer (value.outs-Rec fs) in
    let all : AllByRecursion (λ l. is_kept keep l ≡ true) (labels_of fs) = subst (AllByRecursion (λ l. is_kept keep l ≡ true)) (sym (labels_same r fs h.2)) (all_kept keep) in
    ap (shown_fields v keep) is ∙ ap value.Rec (fields_kept keep fs all) ∙ sym h.1
whole_row bool v h = ap (shown_fields v []) (no_bool (out-Value v) h)
whole_row int v h = ap (shown_fields v []) (no_int (out-Value v) h)
whole_row str v h = ap (shown_fields v []) (no_text (out-Value v) h)
whole_row (var r) v h = ap (shown_fields v []) (ap as_record h.2 ∙ ap record_layer (value.outs-Inj h.0 h.1))
whole_row (coll k t) v h = ap (shown_fields v []) (ap as_record h.1 ∙ no_collection k h.0)
whole_row (arrow a b) v h = absurd h

-- the answers are the rows
pub whole_rows : (t : Ground) (rows : List Value) → AllByRecursion (Inhabits t) rows → answers rows (columns t) [] ≡ rows
whole_rows t [] h = refl
whole_rows t (v ∷ vs) h = ap (λ w. w ∷ answers vs (columns t) []) (whole_row t v h.0.0) ∙ ap (λ ws. v ∷ ws) (whole_rows t vs h.1)

-- ---- they may be started

none_rise : IsStrictlySortedBy bytes_cmp []
unfolding IsStrictlySortedBy
none_rise = tt

item_rises : (t : Ground) → IsGround t → IsStrictlySortedBy bytes_cmp (columns t)
item_rises (rec r) good = labels_rise r good
item_rises bool good = none_rise
item_rises int good = none_rise
item_rises str good = none_rise
item_rises (var r) good = none_rise
item_rises (coll k t) good = none_rise
item_rises (arrow a b) good = none_rise

columns_rise : (t : Ground) → IsGround t → IsStrictlySortedBy bytes_cmp (columns (item_of t))
columns_rise (coll k t) good = item_rises t good
columns_rise (rec r) good = item_rises (rec r) good
columns_rise bool good = none_rise
columns_rise int good = none_rise
columns_rise str good = none_rise
columns_rise (var r) good = none_rise
columns_rise (arrow a b) good = none_rise

some_cond : {X : Type 0} (b : Bool) (x : X) (o : Option X) → IsSome o → IsSome (cond b (Some x) o)
some_cond true x o h = refl
some_cond false x o h = h

labels_there : (r : Row) → AllByRecursion (λ l. IsSome (at l r)) (labels_in r)
labels_there no_row = tt
labels_there (row l t r) = (rw (nat_list_eq_equiv.refl l) refl, all_map (λ m. IsSome (at m r)) (λ m. IsSome (at m (row l t r))) (labels_in r) (λ m h. some_cond (pointwise nat_eq m l) t (at m r) h) (labels_there r))

columns_there : (t : Ground) → AllByRecursion (λ l. IsSome (column l t)) (columns t)
columns_there (rec r) = labels_there r
columns_there bool = tt
columns_there int = tt
columns_there str = tt
columns_there (var r) = tt
columns_there (coll k t) = tt
columns_there (arrow a b) = tt

names_same : (ls : List Name) → same_names ls ls ≡ true
names_same [] = refl
names_same (l ∷ ls) = rw (nat_list_eq_equiv.refl l, names_same ls) refl

pub can_start_whole : (s : State) (source : Name) (ty : Ty) (a : Source) → s.attached source ≡ Some a → a.ty ≡ ty → IsProper a.ty → CanStart s (asks.Rows source (columns (item_of (ground_of ty))) [])
can_start_whole s source ty a is same good = subst (λ u. CanStart s (asks.Rows source (columns (item_of (ground_of u))) [])) same (record {
  answerable = (a, is, rw (names_same (columns (item_of (ground_of a.ty)))) refl, record { rising = columns_rise (ground_of a.ty) good; there = columns_there (item_of (ground_of a.ty)); fitting = tt });
})

-- a collection type is that of its kind over its items
pub collection_is : (t : Ground) → IsColl t → t ≡ coll (kind_of t) (item_of t)
collection_is t h = subst (λ q. q ≡ coll (kind_of q) (item_of q)) (sym h.2) refl

-- ---- rows in another order are the same collection

-- rows in their order
pub in_order : (k : Kind) (rows : List Value) → InOrder k rows rows
in_order kind.List rows = refl
in_order kind.Set rows = IsPermutation-refl rows
in_order kind.Bag rows = IsPermutation-refl rows

pub in_order_canonical : (k : Kind) (rows shown : List Value) → InOrder k rows shown → canonical k shown ≡ canonical k rows
in_order_canonical kind.Set rows shown h =
    let c = canonical_is kind.Set rows in
    sym (canonical_only kind.Set shown (canonical kind.Set rows)
    (c.0, c.1, c.2, λ w. (λ m. Contains-permutation rows shown w h ((c.3 w).0 m), λ m. (c.3 w).1 (Contains-permutation shown rows w (IsPermutation-sym rows shown h) m))))
in_order_canonical kind.Bag rows shown h =
    let c = canonical_is kind.Bag rows in
    sym (canonical_only kind.Bag shown (canonical kind.Bag rows) (c.0, c.1, c.2, λ w. c.3 w ∙ sym (sum_by-IsPermutation _ rows shown h)))
in_order_canonical kind.List rows shown h = ap (canonical kind.List) h

-- a driver that neither selects nor projects is asked whole rows alone
pub only_whole : (a : Abilities) (t : Ground) (source : Name) (keep : List Name) (tests : List ColTest) → a.select ≡ false → a.project ≡ false
    → is_allowed a t (asks.Rows source keep tests) ≡ true → (keep ≡ columns (item_of t)) × (tests ≡ [])
only_whole a t source keep tests no_select no_project allowed =
    let both = and_parts (length tests == 0 || a.select) (same_names keep (columns (item_of t)) || a.project) allowed in
    ((names_decide keep (columns (item_of t))).0 (or_false _ _ no_project both.1), none tests (or_false _ _ no_select both.0))
  where
    or_false : (b c : Bool) → c ≡ false → b || c ≡ true → b ≡ true
    or_false true c e h = refl
    or_false false c e h = let n : false ≡ true = sym e ∙ h in cc

    none : (tests : List ColTest) → length tests == 0 ≡ true → tests ≡ []
    none [] h = refl
    none (test ∷ tests) h = let e : length (test ∷ tests) ≡ 0 = grind (arith, nat_tests, h) in absurd (omega (arith, e))
