-- Laws of the table's meaning: it makes sense of what fits, total primitives do not overflow, and what is canonical
-- stays so.
use Rattle.std.proofs.Common.{◌≡◌, ◌==◌, ℕ, ℤ, ◌+ℤ◌, ◌-ℤ◌, ◌*ℤ◌, neg_ℤ, Ordering, is_le, is_ge, unwrap_or, Bool, true, false, cond, ◌≢◌, List, [], ◌∷◌, ◌++◌, length, find, Option, Some, None, refl, sym, ap, subst, IsSome, IsSomeAnd, IfSome, IfOk, Result, Ok, Err, is_some, pos}
use Rattle.std.specs.Option.{option_map, option_and_then}
use Rattle.std.specs.List.{All, AllByRecursion, flat_map, list_all}
use Rattle.std.proofs.lemmas.List.Elements.{All-append, All-from_recursion, All-nil, recursion_from_All}
use Rattle.kl_value.specs.Canon.{canonical}
use Rattle.kl_value.specs.Order.{compare}
use Rattle.kl_value.specs.IsCanonical.{IsCanonical}
use Rattle.kl_value.specs.declared.Kind.{Kind}
use Rattle.kl_value.specs.declared.Kind.TheVariants as kind
use Rattle.kl_value.specs.declared.Value.{Value, out-Value}
use Rattle.kl_value.specs.declared.Value.TheVariants as value
use Rattle.kl_value.proofs.CanonLemmas.{canonical_keeps}
use Rattle.kl_value.proofs.IsCanonicalLemmas.{bool_made, int_made, text_made, items_canonical}
use Rattle.kl_value.proofs.ViewLemmas.{collection_form, items_form}
use Rattle.kl_value.specs.Views.{IsBool, IsCollection, IsInt, IsText}
use Rattle.kl_prim.specs.Fits.{FitsShape, OneOf, TwoOf, IsAny, IsCollectionOfInts, IsNested, TwoRecords}
use Rattle.kl_prim.specs.Meaning.{Answer, AnswersMeaning, gives, overflows, senseless, with_some, one, two, as_any, all_some, as_ints, as_nested, exact, fits_word, total, extreme, alone, number_in, number_of, set_of_found}
use Rattle.kl_prim.specs.Table.{Fits, FitsRow, IsTotal, IsTotalRow, Row, Takes, TakesRow, meaning, meaning_of, row_at, rows}
use Rattle.kl_value.specs.Views.{Collection, as_bool, as_int, as_text, as_collection, items_at, collection}
use Rattle.kl_prim.specs.declared.stop.PrimStop.{PrimStop}
use Rattle.kl_prim.proofs.ItemLemmas.{all_some_is}
use Rattle.kl_prim.proofs.RecordLemmas.{Made, extended_canonical, first_canonical, record_form, rest_canonical, two_any}
use Rattle.kl_prim.specs.Records.{Fields, as_record, has_all, in_order, is_label_of, share_none}
use Rattle.kl_prim.proofs.TableLemmas.{◌&◌}

-- ---- what holds of each row holds of the row at a code

found_row : (P : Row → Type 0) (code : ℕ) (rs : List Row) → AllByRecursion P rs → IfSome (find (λ r. r.entry.code == code) rs) P
found_row P code [] h = tt
found_row P code (r ∷ rs) h =
    elim (r.entry.code == code) as (λ b. IfSome (cond b (Some r) (find (λ q. q.entry.code == code) rs)) P) [
      | true ↦ h.0
      | false ↦ found_row P code rs h.1
    ]

-- ---- sense

abbrev Makes : Answer → Type 0
Makes a = a ≡ senseless → ⊥

makes_some : {X : Type 0} (o : Option X) (f : X → Answer) → IsSome o → ((x : X) → Makes (f x)) → Makes (with_some o f)
makes_some (Some x) f h g = g x
makes_some None f h g = cc

makes_one : {X : Type 0} (P : Value → Type 0) (as_x : Value → Option X) (f : X → Answer) → ((v : Value) → P v → IsSome (as_x v))
    → ((x : X) → Makes (f x)) → (args : List Value) → OneOf P args → Makes (one as_x f args)
makes_one P as_x f s g [] h = absurd h
makes_one P as_x f s g (v ∷ []) h = makes_some (as_x v) f (s v h) g
makes_one P as_x f s g (v ∷ w ∷ vs) h = absurd h

makes_two : {X Y : Type 0} (P Q : Value → Type 0) (as_x : Value → Option X) (as_y : Value → Option Y) (f : X → Y → Answer)
    → ((v : Value) → P v → IsSome (as_x v)) → ((v : Value) → Q v → IsSome (as_y v))
    → ((x : X) (y : Y) → Makes (f x y)) → (args : List Value) → TwoOf P Q args → Makes (two as_x as_y f args)
makes_two P Q as_x as_y f s t g [] h = absurd h
makes_two P Q as_x as_y f s t g (v ∷ []) h = absurd h
makes_two P Q as_x as_y f s t g (v ∷ w ∷ []) h =
    makes_some (as_x v) (λ x. with_some (as_y w) (f x)) (s v h.0) (λ x. makes_some (as_y w) (f x) (t w h.1) (g x))
makes_two P Q as_x as_y f s t g (v ∷ w ∷ u ∷ vs) h = absurd h

makes_exact : (z : ℤ) → Makes (exact z)
makes_exact z = elim (fits_word z) as (λ b. Makes (cond b (gives (value.Int z)) overflows)) [ true ↦ λ e. cc | false ↦ λ e. cc ]

ints_some : (v : Value) → IsCollectionOfInts v → IsSome (as_ints v)
ints_some v = go (as_collection v)
  where
    go : (o : Option Collection) → IsSomeAnd o (λ c. All IsInt c.items) → IsSome (option_and_then (λ c. all_some as_int c.items) o)
    go (Some c) h = ap (λ p. is_some p) (all_some_is as_int (pos 0) c.items h)
    go None h = absurd h

some_map : {X Y : Type 0} (f : X → Y) (o : Option X) → IsSome o → IsSome (option_map f o)
some_map f (Some x) h = refl
some_map f None h = cc

nested_some : (v : Value) → IsNested v → IsSome (as_nested v)
nested_some v = go (as_collection v)
  where
    go : (o : Option Collection) → IsSomeAnd o (λ c. All (λ w. IsSome (items_at c.kind w)) c.items)
        → IsSome {T = Kind × List (List Value)} (option_and_then (λ c. option_map (λ lists. (c.kind, lists)) (all_some (items_at c.kind) c.items)) o)
    go (Some c) h = some_map _ (all_some (items_at c.kind) c.items) (ap (λ p. is_some p) (all_some_is (items_at c.kind) [] c.items h))
    go None h = absurd h

makes_records : (test : Fields → Fields → Bool) (make : Fields → Fields → Value) (args : List Value) → TwoRecords test args → Makes (two as_record as_record (Made test make) args)
makes_records test make [] h = absurd h
makes_records test make (v ∷ []) h = absurd h
makes_records test make (v ∷ w ∷ []) h = go (as_record v) (as_record w) h
  where
    go : (o q : Option Fields) → IsSomeAnd o (λ fs. IsSomeAnd q (λ gs. test fs gs ≡ true)) → Makes (with_some o (λ fs. with_some q (Made test make fs)))
    go (Some fs) (Some gs) h = rw h (λ e. cc)
    go (Some fs) None h = absurd h
    go None q h = absurd h
makes_records test make (v ∷ w ∷ u ∷ vs) h = absurd h

abbrev SenseAt : Row → Type 0
SenseAt r = (args : List Value) → FitsShape r.entry.shape args → Makes (r.meaning args)

sense_rows : AllByRecursion SenseAt rows
unfolding rows
sense_rows =
    (λ args. makes_two IsAny IsAny as_any as_any _ (λ v h. refl) (λ v h. refl) (λ v w e. cc) args) &
    (λ args. makes_two IsAny IsAny as_any as_any _ (λ v h. refl) (λ v h. refl) (λ v w e. cc) args) &
    (λ args. makes_two IsAny IsAny as_any as_any _ (λ v h. refl) (λ v h. refl) (λ v w e. cc) args) &
    (λ args. makes_two IsAny IsAny as_any as_any _ (λ v h. refl) (λ v h. refl) (λ v w e. cc) args) &
    (λ args. makes_two IsAny IsAny as_any as_any _ (λ v h. refl) (λ v h. refl) (λ v w e. cc) args) &
    (λ args. makes_two IsAny IsAny as_any as_any _ (λ v h. refl) (λ v h. refl) (λ v w e. cc) args) &
    (λ args. makes_two IsInt IsInt as_int as_int _ (λ v h. h) (λ v h. h) (λ m n. makes_exact (m +ℤ n)) args) &
    (λ args. makes_two IsInt IsInt as_int as_int _ (λ v h. h) (λ v h. h) (λ m n. makes_exact (m -ℤ n)) args) &
    (λ args. makes_two IsInt IsInt as_int as_int _ (λ v h. h) (λ v h. h) (λ m n. makes_exact (m *ℤ n)) args) &
    (λ args. makes_one IsInt as_int _ (λ v h. h) (λ n. makes_exact (neg_ℤ n)) args) &
    (λ args. makes_one IsBool as_bool _ (λ v h. h) (λ b e. cc) args) &
    (λ args. makes_two IsText IsText as_text as_text _ (λ v h. h) (λ v h. h) (λ s t e. cc) args) &
    (λ args. makes_one IsCollection as_collection _ (λ v h. h) (λ c e. cc) args) &
    (λ args. makes_one IsCollection as_collection _ (λ v h. h) (λ c e. cc) args) &
    (λ args. makes_one IsCollectionOfInts as_ints _ ints_some (λ ns. makes_exact (total ns)) args) &
    (λ args. makes_two IsAny IsCollection as_any as_collection _ (λ v h. refl) (λ v h. h) (λ v c e. cc) args) &
    (λ args. makes_one IsCollection as_collection _ (λ v h. h) (λ c e. cc) args) &
    (λ args. makes_one IsCollection as_collection _ (λ v h. h) (λ c e. cc) args) &
    (λ args. makes_one IsNested as_nested _ nested_some (λ n e. cc) args) &
    (λ args. makes_one IsCollection as_collection _ (λ v h. h) (λ c e. cc) args) &
    (λ args. makes_one IsCollection as_collection _ (λ v h. h) (λ c e. cc) args) &
    (λ args. makes_one IsCollection as_collection _ (λ v h. h) (λ c e. cc) args) &
    (λ args. makes_one IsText as_text _ (λ v h. h) (λ t e. cc) args) &
    (λ args. makes_two IsText IsText as_text as_text _ (λ v h. h) (λ v h. h) (λ s t e. cc) args) &
    (λ args. makes_one IsText as_text _ (λ v h. h) (λ t e. cc) args) &
    (λ args. makes_one IsInt as_int _ (λ v h. h) (λ n e. cc) args) &
    (λ args. makes_records share_none _ args) &
    (λ args. makes_records has_all _ args) &
    (λ args. makes_two IsInt IsCollection as_int as_collection _ (λ v h. h) (λ v h. h) (λ n c e. cc) args) &
    (λ args. makes_two IsText IsText as_text as_text _ (λ v h. h) (λ v h. h) (λ s t e. cc) args) &
    tt

-- what fits makes sense
pub meaning_sense : (code : ℕ) (args : List Value) → Fits code args → meaning code args ≢ senseless
unfolding Fits meaning row_at
meaning_sense code args = go (find (λ r. r.entry.code == code) rows) (found_row SenseAt code rows sense_rows)
  where
    go : (o : Option Row) → IfSome o SenseAt → FitsRow o args → meaning_of o args ≢ senseless
    go (Some r) s h = s args h
    go None s h = absurd h

-- ---- how many arguments fit

one_long : (P : Value → Type 0) (args : List Value) → OneOf P args → length args ≡ 1
one_long P [] h = absurd h
one_long P (v ∷ []) h = refl
one_long P (v ∷ w ∷ vs) h = absurd h

two_long : (P Q : Value → Type 0) (args : List Value) → TwoOf P Q args → length args ≡ 2
two_long P Q [] h = absurd h
two_long P Q (v ∷ []) h = absurd h
two_long P Q (v ∷ w ∷ []) h = refl
two_long P Q (v ∷ w ∷ u ∷ vs) h = absurd h

abbrev TakesAt : Row → Type 0
TakesAt r = (args : List Value) → FitsShape r.entry.shape args → r.entry.arity ≡ length args

takes_rows : AllByRecursion TakesAt rows
unfolding rows
takes_rows =
    (λ args h. sym (two_long IsAny IsAny args h)) &
    (λ args h. sym (two_long IsAny IsAny args h)) &
    (λ args h. sym (two_long IsAny IsAny args h)) &
    (λ args h. sym (two_long IsAny IsAny args h)) &
    (λ args h. sym (two_long IsAny IsAny args h)) &
    (λ args h. sym (two_long IsAny IsAny args h)) &
    (λ args h. sym (two_long IsInt IsInt args h)) &
    (λ args h. sym (two_long IsInt IsInt args h)) &
    (λ args h. sym (two_long IsInt IsInt args h)) &
    (λ args h. sym (one_long IsInt args h)) &
    (λ args h. sym (one_long IsBool args h)) &
    (λ args h. sym (two_long IsText IsText args h)) &
    (λ args h. sym (one_long IsCollection args h)) &
    (λ args h. sym (one_long IsCollection args h)) &
    (λ args h. sym (one_long IsCollectionOfInts args h)) &
    (λ args h. sym (two_long IsAny IsCollection args h)) &
    (λ args h. sym (one_long IsCollection args h)) &
    (λ args h. sym (one_long IsCollection args h)) &
    (λ args h. sym (one_long IsNested args h)) &
    (λ args h. sym (one_long IsCollection args h)) &
    (λ args h. sym (one_long IsCollection args h)) &
    (λ args h. sym (one_long IsCollection args h)) &
    (λ args h. sym (one_long IsText args h)) &
    (λ args h. sym (two_long IsText IsText args h)) &
    (λ args h. sym (one_long IsText args h)) &
    (λ args h. sym (one_long IsInt args h)) &
    (λ args h. sym (two_long IsAny IsAny args (two_any share_none args h))) &
    (λ args h. sym (two_long IsAny IsAny args (two_any has_all args h))) &
    (λ args h. sym (two_long IsInt IsCollection args h)) &
    (λ args h. sym (two_long IsText IsText args h)) &
    tt

-- as many as the row says
pub meaning_takes : (code : ℕ) (args : List Value) → Fits code args → Takes code (length args)
unfolding Fits Takes row_at
meaning_takes code args = go (find (λ r. r.entry.code == code) rows) (found_row TakesAt code rows takes_rows)
  where
    go : (o : Option Row) → IfSome o TakesAt → FitsRow o args → TakesRow o (length args)
    go (Some r) s h = s args h
    go None s h = absurd h

-- ---- totality

abbrev Never : Answer → Type 0
Never a = a ≡ overflows → ⊥

never_some : {X : Type 0} (o : Option X) (f : X → Answer) → ((x : X) → Never (f x)) → Never (with_some o f)
never_some (Some x) f g = g x
never_some None f g = λ e. cc

never_one : {X : Type 0} (as_x : Value → Option X) (f : X → Answer) → ((x : X) → Never (f x)) → (args : List Value) → Never (one as_x f args)
never_one as_x f g [] = λ e. cc
never_one as_x f g (v ∷ []) = never_some (as_x v) f g
never_one as_x f g (v ∷ w ∷ vs) = λ e. cc

never_two : {X Y : Type 0} (as_x : Value → Option X) (as_y : Value → Option Y) (f : X → Y → Answer) → ((x : X) (y : Y) → Never (f x y))
    → (args : List Value) → Never (two as_x as_y f args)
never_two as_x as_y f g [] = λ e. cc
never_two as_x as_y f g (v ∷ []) = λ e. cc
never_two as_x as_y f g (v ∷ w ∷ []) = never_some (as_x v) (λ x. with_some (as_y w) (f x)) (λ x. never_some (as_y w) (f x) (g x))
never_two as_x as_y f g (v ∷ w ∷ u ∷ vs) = λ e. cc

never_if : (b : Bool) (v : Value) → Never (cond b (gives v) senseless)
never_if true v e = cc
never_if false v e = cc

abbrev TotalAt : Row → Type 0
TotalAt r = r.entry.total ≡ true → (args : List Value) → Never (r.meaning args)

total_rows : AllByRecursion TotalAt rows
unfolding rows
total_rows =
    (λ e args. never_two as_any as_any _ (λ v w h. cc) args) &
    (λ e args. never_two as_any as_any _ (λ v w h. cc) args) &
    (λ e args. never_two as_any as_any _ (λ v w h. cc) args) &
    (λ e args. never_two as_any as_any _ (λ v w h. cc) args) &
    (λ e args. never_two as_any as_any _ (λ v w h. cc) args) &
    (λ e args. never_two as_any as_any _ (λ v w h. cc) args) &
    (λ e. cc) &
    (λ e. cc) &
    (λ e. cc) &
    (λ e. cc) &
    (λ e args. never_one as_bool _ (λ b h. cc) args) &
    (λ e args. never_two as_text as_text _ (λ s t h. cc) args) &
    (λ e args. never_one as_collection _ (λ c h. cc) args) &
    (λ e args. never_one as_collection _ (λ c h. cc) args) &
    (λ e. cc) &
    (λ e args. never_two as_any as_collection _ (λ v c h. cc) args) &
    (λ e args. never_one as_collection _ (λ c h. cc) args) &
    (λ e args. never_one as_collection _ (λ c h. cc) args) &
    (λ e args. never_one as_nested _ (λ n h. cc) args) &
    (λ e args. never_one as_collection _ (λ c h. cc) args) &
    (λ e args. never_one as_collection _ (λ c h. cc) args) &
    (λ e args. never_one as_collection _ (λ c h. cc) args) &
    (λ e args. never_one as_text _ (λ t h. cc) args) &
    (λ e args. never_two as_text as_text _ (λ s t h. cc) args) &
    (λ e args. never_one as_text _ (λ t h. cc) args) &
    (λ e args. never_one as_int _ (λ n h. cc) args) &
    (λ e args. never_two as_record as_record _ (λ fs gs. never_if (share_none fs gs) _) args) &
    (λ e args. never_two as_record as_record _ (λ fs gs. never_if (has_all fs gs) _) args) &
    (λ e args. never_two as_int as_collection _ (λ n c h. cc) args) &
    (λ e args. never_two as_text as_text _ (λ s t h. cc) args) &
    tt

-- a total primitive does not overflow
pub meaning_total : (code : ℕ) (args : List Value) → IsTotal code → meaning code args ≢ overflows
unfolding IsTotal meaning row_at
meaning_total code args = go (find (λ r. r.entry.code == code) rows) (found_row TotalAt code rows total_rows)
  where
    go : (o : Option Row) → IfSome o TotalAt → IsTotalRow o → meaning_of o args ≢ overflows
    go (Some r) s h = s h args
    go None s h = absurd h

-- ---- canonical form

abbrev Clean : Answer → Type 0
Clean (gives v) = IsCanonical v
Clean overflows = Unit {0}
Clean senseless = Unit {0}

exact_clean : (z : ℤ) → Clean (exact z)
exact_clean z = elim (fits_word z) as (λ b. Clean (cond b (gives (value.Int z)) overflows)) [ true ↦ int_made z | false ↦ tt ]

alone_is : (k : Kind) (o : Option Value) → canonical k (alone o) ≡ collection k (alone o)
unfolding canonical
alone_is kind.Set (Some v) = refl
alone_is kind.Set None = refl
alone_is kind.Bag (Some v) = refl
alone_is kind.Bag None = refl
alone_is kind.List (Some v) = refl
alone_is kind.List None = refl

alone_clean : (k : Kind) (o : Option Value) → IfSome o IsCanonical → IsCanonical (collection k (alone o))
alone_clean k (Some v) h =
    subst IsCanonical (alone_is k (Some v)) (canonical_keeps k (v ∷ []) (All-from_recursion IsCanonical (v ∷ []) (h, tt)))
alone_clean k None h = subst IsCanonical (alone_is k None) (canonical_keeps k [] (All-nil IsCanonical))

found_canonical : (p : Value → Bool) (vs : List Value) → AllByRecursion IsCanonical vs → IfSome (find p vs) IsCanonical
found_canonical p [] h = tt
found_canonical p (v ∷ vs) h = elim (p v) as (λ b. IfSome (cond b (Some v) (find p vs)) IsCanonical) [ true ↦ h.0 | false ↦ found_canonical p vs h.1 ]

extreme_clean : (test : Ordering → Bool) (k : Kind) (vs : List Value) → All IsCanonical vs → IsCanonical (collection k (alone (extreme test vs)))
extreme_clean test k vs h =
    alone_clean k (extreme test vs) (found_canonical (λ v. list_all (λ w. test (compare v w)) vs) vs (recursion_from_All IsCanonical vs h))

found_clean : (o : Option ℤ) → IsCanonical (set_of_found o)
found_clean (Some n) = alone_clean kind.Set (Some (value.Int n)) (int_made n)
found_clean None = alone_clean kind.Set None tt

held : (v : Value) (c : Collection) → IsCanonical v → as_collection v ≡ Some c → All IsCanonical c.items
held v c h e = items_canonical c.kind c.items (subst IsCanonical (collection_form v c e) h)

lists_held : (k : Kind) (vs : List Value) (lists : List (List Value)) → AllByRecursion IsCanonical vs → all_some (items_at k) vs ≡ Some lists
    → All IsCanonical (flat_map (λ ws. ws) lists)
lists_held k [] lists h e = let same : [] ≡ lists = cc in subst (λ ls. All IsCanonical (flat_map (λ ws. ws) ls)) same (All-nil IsCanonical)
lists_held k (v ∷ vs) lists h e =
    first (items_at k v) (λ ws i. held v _ h.0 (items_form k (out-Value v) ws i)) (λ ls j. lists_held k vs ls h.1 j) e
  where
    both : (o : Option (List (List Value))) (us : List Value) → All IsCanonical us
        → ((ls : List (List Value)) → o ≡ Some ls → All IsCanonical (flat_map (λ ws. ws) ls)) → option_map (λ ls. us ∷ ls) o ≡ Some lists
        → All IsCanonical (flat_map (λ ws. ws) lists)
    both (Some ls) us a g i =
        let same : us ∷ ls ≡ lists = cc in
        subst (λ ks. All IsCanonical (flat_map (λ ws. ws) ks)) same (All-append IsCanonical us (flat_map (λ ws. ws) ls) a (g ls refl))
    both None us a g i = cc

    first : (o : Option (List Value)) → ((us : List Value) → o ≡ Some us → All IsCanonical us)
        → ((ls : List (List Value)) → all_some (items_at k) vs ≡ Some ls → All IsCanonical (flat_map (λ ws. ws) ls))
        → option_and_then (λ us. option_map (λ ls. us ∷ ls) (all_some (items_at k) vs)) o ≡ Some lists → All IsCanonical (flat_map (λ ws. ws) lists)
    first (Some us) g r i = both (all_some (items_at k) vs) us (g us refl) r i
    first None g r i = cc

nested_held : (v : Value) (n : Kind × List (List Value)) → IsCanonical v → as_nested v ≡ Some n → All IsCanonical (flat_map (λ ws. ws) n.1)
nested_held v n h e = outer (as_collection v) (λ c i. held v c h i) e
  where
    inner : (k : Kind) (o : Option (List (List Value))) → ((ls : List (List Value)) → o ≡ Some ls → All IsCanonical (flat_map (λ ws. ws) ls))
        → option_map (λ ls. (k, ls)) o ≡ Some n → All IsCanonical (flat_map (λ ws. ws) n.1)
    inner k (Some ls) g i = let same : ls ≡ n.1 = ap (λ p. (unwrap_or p n).1) i in subst (λ ks. All IsCanonical (flat_map (λ ws. ws) ks)) same (g ls refl)
    inner k None g i = cc

    outer : (o : Option Collection) → ((c : Collection) → o ≡ Some c → All IsCanonical c.items)
        → option_and_then (λ c. option_map (λ ls. (c.kind, ls)) (all_some (items_at c.kind) c.items)) o ≡ Some n
        → All IsCanonical (flat_map (λ ws. ws) n.1)
    outer (Some c) g i =
        inner c.kind (all_some (items_at c.kind) c.items) (λ ls j. lists_held c.kind c.items ls (recursion_from_All IsCanonical c.items (g c refl)) j) i
    outer None g i = cc

clean_some : {X : Type 0} (o : Option X) (f : X → Answer) → ((x : X) → o ≡ Some x → Clean (f x)) → Clean (with_some o f)
clean_some (Some x) f g = g x refl
clean_some None f g = tt

clean_one : {X : Type 0} (as_x : Value → Option X) (f : X → Answer) → ((v : Value) (x : X) → IsCanonical v → as_x v ≡ Some x → Clean (f x))
    → (args : List Value) → AllByRecursion IsCanonical args → Clean (one as_x f args)
clean_one as_x f g [] h = tt
clean_one as_x f g (v ∷ []) h = clean_some (as_x v) f (λ x e. g v x h.0 e)
clean_one as_x f g (v ∷ w ∷ vs) h = tt

clean_two : {X Y : Type 0} (as_x : Value → Option X) (as_y : Value → Option Y) (f : X → Y → Answer)
    → ((v w : Value) (x : X) (y : Y) → IsCanonical v → IsCanonical w → as_x v ≡ Some x → as_y w ≡ Some y → Clean (f x y))
    → (args : List Value) → AllByRecursion IsCanonical args → Clean (two as_x as_y f args)
clean_two as_x as_y f g [] h = tt
clean_two as_x as_y f g (v ∷ []) h = tt
clean_two as_x as_y f g (v ∷ w ∷ []) h =
    clean_some (as_x v) (λ x. with_some (as_y w) (f x)) (λ x e. clean_some (as_y w) (f x) (λ y i. g v w x y h.0 h.1.0 e i))
clean_two as_x as_y f g (v ∷ w ∷ u ∷ vs) h = tt

clean_if : (b : Bool) (v : Value) → (b ≡ true → IsCanonical v) → Clean (cond b (gives v) senseless)
clean_if true v h = h refl
clean_if false v h = tt

extended_clean : (fs gs : Fields) → IsCanonical (value.Rec fs) → IsCanonical (value.Rec gs) → Clean (cond (share_none fs gs) (gives (value.Rec (in_order (fs ++ gs)))) senseless)
extended_clean fs gs h k = clean_if (share_none fs gs) _ (λ e. extended_canonical fs gs h k e)

abbrev CleanAt : Row → Type 0
CleanAt r = (args : List Value) → AllByRecursion IsCanonical args → Clean (r.meaning args)

clean_rows : AllByRecursion CleanAt rows
unfolding rows
clean_rows =
    (λ args. clean_two as_any as_any _ (λ v w x y hv hw ex ey. bool_made _) args) &
    (λ args. clean_two as_any as_any _ (λ v w x y hv hw ex ey. bool_made _) args) &
    (λ args. clean_two as_any as_any _ (λ v w x y hv hw ex ey. bool_made _) args) &
    (λ args. clean_two as_any as_any _ (λ v w x y hv hw ex ey. bool_made _) args) &
    (λ args. clean_two as_any as_any _ (λ v w x y hv hw ex ey. bool_made _) args) &
    (λ args. clean_two as_any as_any _ (λ v w x y hv hw ex ey. bool_made _) args) &
    (λ args. clean_two as_int as_int _ (λ v w m n hv hw em en. exact_clean (m +ℤ n)) args) &
    (λ args. clean_two as_int as_int _ (λ v w m n hv hw em en. exact_clean (m -ℤ n)) args) &
    (λ args. clean_two as_int as_int _ (λ v w m n hv hw em en. exact_clean (m *ℤ n)) args) &
    (λ args. clean_one as_int _ (λ v n h e. exact_clean (neg_ℤ n)) args) &
    (λ args. clean_one as_bool _ (λ v b h e. bool_made _) args) &
    (λ args. clean_two as_text as_text _ (λ v w s t hv hw es et. text_made _) args) &
    (λ args. clean_one as_collection _ (λ v c h e. bool_made _) args) &
    (λ args. clean_one as_collection _ (λ v c h e. int_made _) args) &
    (λ args. clean_one as_ints _ (λ v ns h e. exact_clean (total ns)) args) &
    (λ args. clean_two as_any as_collection _ (λ v w x c hv hw ex ec. bool_made _) args) &
    (λ args. clean_one as_collection _ (λ v c h e. extreme_clean is_le c.kind c.items (held v c h e)) args) &
    (λ args. clean_one as_collection _ (λ v c h e. extreme_clean is_ge c.kind c.items (held v c h e)) args) &
    (λ args. clean_one as_nested _ (λ v n h e. canonical_keeps n.0 _ (nested_held v n h e)) args) &
    (λ args. clean_one as_collection _ (λ v c h e. canonical_keeps kind.Set c.items (held v c h e)) args) &
    (λ args. clean_one as_collection _ (λ v c h e. canonical_keeps kind.Bag c.items (held v c h e)) args) &
    (λ args. clean_one as_collection _ (λ v c h e. canonical_keeps kind.List c.items (held v c h e)) args) &
    (λ args. clean_one as_text _ (λ v t h e. int_made _) args) &
    (λ args. clean_two as_text as_text _ (λ v w s t hv hw es et. bool_made _) args) &
    (λ args. clean_one as_text _ (λ v t h e. found_clean (number_in t)) args) &
    (λ args. clean_one as_int _ (λ v n h e. text_made _) args) &
    (λ args. clean_two as_record as_record _ (λ v w fs gs hv hw ev ew. extended_clean fs gs (subst IsCanonical (record_form v fs ev) hv) (subst IsCanonical (record_form w gs ew) hw)) args) &
    (λ args. clean_two as_record as_record _ (λ v w fs gs hv hw ev ew. clean_if (has_all fs gs) _ (λ e. rest_canonical (is_label_of gs) fs (subst IsCanonical (record_form v fs ev) hv))) args) &
    (λ args. clean_two as_int as_collection _ (λ v w n c hv hw en ec. first_canonical c.kind (number_of n) c.items (subst IsCanonical (collection_form w c ec) hw)) args) &
    (λ args. clean_two as_text as_text _ (λ v w s t hv hw es et. bool_made _) args) &
    tt

-- of canonical arguments the answer is canonical
pub meaning_canonical : (code : ℕ) (args : List Value) (v : Value) → All IsCanonical args → meaning code args ≡ gives v → IsCanonical v
unfolding meaning row_at
meaning_canonical code args v h e =
    subst Clean e (go (find (λ r. r.entry.code == code) rows) (found_row CleanAt code rows clean_rows))
  where
    go : (o : Option Row) → IfSome o CleanAt → Clean (meaning_of o args)
    go (Some r) s = s args (recursion_from_All IsCanonical args h)
    go None s = tt

pub answer_canonical : (code : ℕ) (args : List Value) (r : Result Value PrimStop) → All IsCanonical args → AnswersMeaning (meaning code args) r → IfOk r IsCanonical
answer_canonical code args (Ok v) h e = meaning_canonical code args v h e
answer_canonical code args (Err e) h a = tt
