-- What a primitive makes of arguments of its types.
use Rattle.std.proofs.Common.{◌≡◌, ◌⊎◌, inl, inr, ◌==◌, ℕ, ℤ, ◌+ℤ◌, ◌-ℤ◌, ◌*ℤ◌, neg_ℤ, Ordering, is_le, is_ge, Bool, true, false, cond, List, [], ◌∷◌, ◌++◌, length, take, find, Option, Some, None, IsSome, IfSome, refl, sym, ap, subst, ◌∙◌}
use Rattle.std.specs.Option.{option_map, option_and_then}
use Rattle.std.specs.List.{AllByRecursion, flat_map, list_all}
use Rattle.std.proofs.lemmas.List.Elements.{All-from_recursion}
use Rattle.kl_value.specs.Canon.{canonical}
use Rattle.kl_value.specs.Order.{compare}
use Rattle.kl_value.specs.IsCanonical.{IsCanonical}
use Rattle.kl_value.specs.declared.Kind.{Kind}
use Rattle.kl_value.specs.declared.Kind.TheVariants as kind
use Rattle.kl_value.specs.declared.Value.{Value}
use Rattle.kl_value.specs.declared.Value.TheVariants as value
use Rattle.kl_type.specs.Ground.{Ground, Row, bool, int, str, rec, coll}
use Rattle.kl_prim.specs.Fits.{FitsShape, OneOf, TwoOf, IsAny, IsCollectionOfInts, IsNested, TwoRecords}
use Rattle.kl_prim.specs.Meaning.{Answer, gives, overflows, senseless, with_some, one, two, as_any, all_some, as_ints, as_nested, exact, fits_word, total, extreme, alone, number_in, number_of, set_of_found}
use Rattle.kl_prim.specs.Table.{Fits, FitsRow, Row as Primitive, meaning, meaning_of, row_at, rows}
use Rattle.kl_value.specs.Views.{Collection, as_bool, as_int, as_text, as_collection, items_at, collection, items_layer, IsBool, IsCollection, IsInt, IsText}
use Rattle.kl_prim.specs.declared.rows.Shape.{Shape}
use Rattle.kl_prim.specs.declared.rows.Shape.TheVariants as shape
use Rattle.kl_prim.proofs.MeaningLemmas.{meaning_sense, meaning_canonical}
use Rattle.kl_prim.proofs.TableLemmas.{◌&◌}
use Rattle.kl_prim.proofs.RecordLemmas.{all_take, fields_rise}
use Rattle.kl_prim.specs.Records.{Fields, as_record, record_layer, has_all, in_order, is_label_of, share_none, without}
use Rattle.kl_base.specs.Fields.{LabelsRise}
use Rattle.kl_outcome.specs.Outcome.{answered}
use Rattle.kl_outcome.specs.Typed.{Has, HasFields, HaveTypes, Inhabits, IsBoth, IsWithout, OfType, ShapeTypes, RowTypes, PrimTypes, stands_in}
use Rattle.kl_outcome.proofs.RowFields.{all_there, both_typed, labels_stand, none_shared, without_by, without_typed}
use Rattle.kl_value.proofs.ViewLemmas.{collection_is}
use Rattle.kl_outcome.proofs.OutcomeTypes.{canonical_has, over_nil}
use Rattle.kl_base.proofs.Each.{all_append}

-- ---- arguments of these types

one_typed : (P : Value → Type 0) (a : Ground) (vs : List Value) → ((v : Value) → Has a v → P v) → HaveTypes (a ∷ []) vs → OneOf P vs
one_typed P a [] g h = absurd h
one_typed P a (v ∷ []) g h = g v h.0.0
one_typed P a (v ∷ w ∷ vs) g h = absurd h.1

two_typed : (P Q : Value → Type 0) (a b : Ground) (vs : List Value) → ((v : Value) → Has a v → P v) → ((v : Value) → Has b v → Q v) → HaveTypes (a ∷ b ∷ []) vs → TwoOf P Q vs
two_typed P Q a b [] f g h = absurd h
two_typed P Q a b (v ∷ []) f g h = absurd h.1
two_typed P Q a b (v ∷ w ∷ []) f g h = (f v h.0.0, g w h.1.0.0)
two_typed P Q a b (v ∷ w ∷ u ∷ vs) f g h = absurd h.1.1

read : (k : Kind) (a : Ground) (v : Value) (h : Has (coll k a) v) → as_collection v ≡ Some (record { kind = k; items = h.0 })
read k a v h = ap as_collection h.1 ∙ collection_is k h.0

coll_is : (k : Kind) (a : Ground) (v : Value) → Has (coll k a) v → IsCollection v
coll_is k a v h = rw (read k a v h) refl

ints_are : (k : Kind) (v : Value) → Has (coll k int) v → IsCollectionOfInts v
ints_are k v h = rw (read k int v h) (All-from_recursion IsInt h.0 h.2)

items_are : (k : Kind) (vs : List Value) → items_at k (collection k vs) ≡ Some vs
items_are kind.Set vs = ap (items_layer kind.Set) (value.outs-Set vs)
items_are kind.Bag vs = ap (items_layer kind.Bag) (value.outs-Bag vs)
items_are kind.List vs = ap (items_layer kind.List) (value.outs-List vs)

inner_are : (k : Kind) (a : Ground) (vs : List Value) → AllByRecursion (Has (coll k a)) vs → AllByRecursion (λ v. IsSome (items_at k v)) vs
inner_are k a [] h = tt
inner_are k a (v ∷ vs) h = (rw (h.0.1, items_are k h.0.0) refl, inner_are k a vs h.1)

nested_is : (k : Kind) (a : Ground) (v : Value) → Has (coll k (coll k a)) v → IsNested v
nested_is k a v h = rw (read k (coll k a) v h) (All-from_recursion (λ w. IsSome (items_at k w)) h.0 (inner_are k a h.0 h.2))

fields_are : (r : Row) (v : Value) (h : Has (rec r) v) → as_record v ≡ Some h.0
fields_are r v h = ap as_record h.1 ∙ ap record_layer (value.outs-Rec h.0)

records_typed : (test : Fields → Fields → Bool) (r s : Row) (vs : List Value) → ((fs gs : Fields) → HasFields r fs → HasFields s gs → test fs gs ≡ true)
    → HaveTypes (rec r ∷ rec s ∷ []) vs → TwoRecords test vs
records_typed test r s [] g h = absurd h
records_typed test r s (v ∷ []) g h = absurd h.1
records_typed test r s (v ∷ w ∷ []) g h =
    rw (fields_are r v h.0.0, fields_are s w h.1.0.0) (g h.0.0.0 h.1.0.0.0 h.0.0.2 h.1.0.0.2)
records_typed test r s (v ∷ w ∷ u ∷ vs) g h = absurd h.1.1

-- ---- they fit

along : (vs : List Value) (ts us : List Ground) → ts ≡ us → HaveTypes ts vs → HaveTypes us vs
along vs ts us e h = subst (λ q. HaveTypes q vs) e h

shape_fits : (s : Shape) (ts : List Ground) (t : Ground) (vs : List Value) → ShapeTypes s ts t → HaveTypes ts vs → FitsShape s vs
shape_fits shape.Compare ts t vs s h = two_typed IsAny IsAny s.0 s.0 vs (λ v i. tt) (λ v i. tt) (along vs ts _ s.1 h)
shape_fits shape.IntOp ts t vs s h = two_typed IsInt IsInt int int vs (λ v i. i) (λ v i. i) (along vs ts _ s.0 h)
shape_fits shape.IntFn ts t vs s h = one_typed IsInt int vs (λ v i. i) (along vs ts _ s.0 h)
shape_fits shape.BoolFn ts t vs s h = one_typed IsBool bool vs (λ v i. i) (along vs ts _ s.0 h)
shape_fits shape.TextJoin ts t vs s h = two_typed IsText IsText str str vs (λ v i. i) (λ v i. i) (along vs ts _ s.0 h)
shape_fits shape.CollTest ts t vs s h = one_typed IsCollection (coll s.0 s.1) vs (coll_is s.0 s.1) (along vs ts _ s.2 h)
shape_fits shape.CollCount ts t vs s h = one_typed IsCollection (coll s.0 s.1) vs (coll_is s.0 s.1) (along vs ts _ s.2 h)
shape_fits shape.CollSum ts t vs s h = one_typed IsCollectionOfInts (coll s.0 int) vs (ints_are s.0) (along vs ts _ s.1 h)
shape_fits shape.Member ts t vs s h = two_typed IsAny IsCollection s.1 (coll s.0 s.1) vs (λ v i. tt) (coll_is s.0 s.1) (along vs ts _ s.2 h)
shape_fits shape.CollSame ts t vs s h = one_typed IsCollection (coll s.0 s.1) vs (coll_is s.0 s.1) (along vs ts _ s.2 h)
shape_fits shape.Flatten ts t vs s h = one_typed IsNested (coll s.0 (coll s.0 s.1)) vs (nested_is s.0 s.1) (along vs ts _ s.2 h)
shape_fits shape.ToSet ts t vs s h = one_typed IsCollection (coll s.0 s.1) vs (coll_is s.0 s.1) (along vs ts _ s.2 h)
shape_fits shape.ToBag ts t vs s h = one_typed IsCollection (coll s.0 s.1) vs (coll_is s.0 s.1) (along vs ts _ s.2 h)
shape_fits shape.ToList ts t vs s h = one_typed IsCollection (coll s.0 s.1) vs (coll_is s.0 s.1) (along vs ts _ s.2 h)
shape_fits shape.TextLen ts t vs s h = one_typed IsText str vs (λ v i. i) (along vs ts _ s.0 h)
shape_fits shape.TextTest ts t vs s h = two_typed IsText IsText str str vs (λ v i. i) (λ v i. i) (along vs ts _ s.0 h)
shape_fits shape.TextInts ts t vs s h = one_typed IsText str vs (λ v i. i) (along vs ts _ s.0 h)
shape_fits shape.IntText ts t vs s h = one_typed IsInt int vs (λ v i. i) (along vs ts _ s.0 h)
shape_fits shape.Extend ts t vs s h = records_typed share_none s.0 s.1 vs (λ fs gs i j. none_shared s.0 s.1 s.2 s.5 fs gs i j) (along vs ts _ s.3 h)
shape_fits shape.Rest ts t vs s h = records_typed has_all s.0 s.1 vs (λ fs gs i j. all_there s.0 s.1 fs gs i j s.5) (along vs ts _ s.3 h)
shape_fits shape.Take ts t vs s h = two_typed IsInt IsCollection int (coll s.0 s.1) vs (λ v i. i) (coll_is s.0 s.1) (along vs ts _ s.2 h)

pub prim_fits : (code : ℕ) (ts : List Ground) (t : Ground) (vs : List Value) → PrimTypes code ts t → HaveTypes ts vs → Fits code vs
unfolding PrimTypes Fits
prim_fits code ts t vs = go (row_at code)
  where
    go : (o : Option Primitive) → RowTypes o ts t → HaveTypes ts vs → FitsRow o vs
    go (Some r) s h = shape_fits r.entry.shape ts t vs s h
    go None s h = absurd s

-- ---- the type of what they give

abbrev Sound : Ground → Answer → Type 0
Sound t (gives v) = Has t v
Sound t overflows = Unit {0}
Sound t senseless = Unit {0}

sound_some : {X : Type 0} (t : Ground) (o : Option X) (f : X → Answer) → ((x : X) → o ≡ Some x → Sound t (f x)) → Sound t (with_some o f)
sound_some t (Some x) f g = g x refl
sound_some t None f g = tt

sound_one : {X : Type 0} (t u : Ground) (as_x : Value → Option X) (f : X → Answer) → t ≡ u → ((x : X) → Sound u (f x)) → (vs : List Value) → Sound t (one as_x f vs)
sound_one t u as_x f e g [] = tt
sound_one t u as_x f e g (v ∷ []) = sound_some t (as_x v) f (λ x i. subst (λ q. Sound q (f x)) (sym e) (g x))
sound_one t u as_x f e g (v ∷ w ∷ vs) = tt

sound_two : {X Y : Type 0} (t u : Ground) (as_x : Value → Option X) (as_y : Value → Option Y) (f : X → Y → Answer) → t ≡ u → ((x : X) (y : Y) → Sound u (f x y)) → (vs : List Value) → Sound t (two as_x as_y f vs)
sound_two t u as_x as_y f e g [] = tt
sound_two t u as_x as_y f e g (v ∷ []) = tt
sound_two t u as_x as_y f e g (v ∷ w ∷ []) = sound_some t (as_x v) (λ x. with_some (as_y w) (f x)) (λ x i. sound_some t (as_y w) (f x) (λ y j. subst (λ q. Sound q (f x y)) (sym e) (g x y)))
sound_two t u as_x as_y f e g (v ∷ w ∷ u' ∷ vs) = tt

-- of one argument of a type
sound_of : {X : Type 0} (t u a : Ground) (as_x : Value → Option X) (f : X → Answer) (ts : List Ground) → ts ≡ a ∷ [] → t ≡ u → ((v : Value) (x : X) → Has a v → as_x v ≡ Some x → Sound u (f x))
    → (vs : List Value) → HaveTypes ts vs → Sound t (one as_x f vs)
sound_of {X} t u a as_x f ts i e g vs h = go vs (along vs ts (a ∷ []) i h)
  where
    go : (vs : List Value) → HaveTypes (a ∷ []) vs → Sound t (one as_x f vs)
    go [] h = tt
    go (v ∷ []) h = sound_some t (as_x v) f (λ x j. subst (λ q. Sound q (f x)) (sym e) (g v x h.0.0 j))
    go (v ∷ w ∷ vs) h = tt

has_bool : (b : Bool) → Has bool (value.Bool b)
has_bool b = rw (value.outs-Bool b) refl

pub has_int : (n : ℤ) → Has int (value.Int n)
has_int n = rw (value.outs-Int n) refl

has_text : (t : List ℕ) → Has str (value.Text t)
has_text t = rw (value.outs-Text t) refl

sound_exact : (z : ℤ) → Sound int (exact z)
sound_exact z = elim (fits_word z) as (λ b. Sound int (cond b (gives (value.Int z)) overflows)) [ true ↦ has_int z | false ↦ tt ]

found_typed : (t : Ground) (p : Value → Bool) (vs : List Value) → AllByRecursion (Has t) vs → IfSome (find p vs) (Has t)
found_typed t p [] h = tt
found_typed t p (v ∷ vs) h = elim (p v) as (λ b. IfSome (cond b (Some v) (find p vs)) (Has t)) [ true ↦ h.0 | false ↦ found_typed t p vs h.1 ]

alone_typed : (k : Kind) (t : Ground) (o : Option Value) → IfSome o (Has t) → Has (coll k t) (collection k (alone o))
alone_typed k t (Some v) h = (v ∷ [], refl, (h, tt))
alone_typed k t None h = ([], refl, tt)

same_items : (k : Kind) (a : Ground) (v : Value) (c : Collection) → (h : Has (coll k a) v) → as_collection v ≡ Some c → record { kind = k; items = h.0 } ≡ c
same_items k a v c h e = let q : Some (record { kind = k; items = h.0 }) ≡ Some c = sym (read k a v h) ∙ e in cc

extreme_typed : (test : Ordering → Bool) (k : Kind) (a : Ground) (v : Value) (c : Collection) → Has (coll k a) v → as_collection v ≡ Some c → Has (coll k a) (collection c.kind (alone (extreme test c.items)))
extreme_typed test k a v c h e =
    subst (λ d. Has (coll k a) (collection d.kind (alone (extreme test d.items)))) (same_items k a v c h e)
    (alone_typed k a (extreme test h.0) (found_typed a (λ v. list_all (λ w. test (compare v w)) h.0) h.0 h.2))

into_typed : (j k : Kind) (a : Ground) (v : Value) (c : Collection) → Has (coll k a) v → as_collection v ≡ Some c → Has (coll j a) (canonical j c.items)
into_typed j k a v c h e = subst (λ d. Has (coll j a) (canonical j d.items)) (same_items k a v c h e) (canonical_has j a h.0 h.2)

lists_typed : (k : Kind) (a : Ground) (vs : List Value) (lists : List (List Value)) → AllByRecursion (Has (coll k a)) vs → all_some (items_at k) vs ≡ Some lists → AllByRecursion (Has a) (flat_map (λ us. us) lists)
lists_typed k a [] lists h e = let same : [] ≡ lists = cc in subst (λ ls. AllByRecursion (Has a) (flat_map (λ us. us) ls)) same tt
lists_typed k a (v ∷ vs) lists h e = by_rest (all_some (items_at k) vs) refl (λ ls f. lists_typed k a vs ls h.1 f)
  where
    us : List Value
    us = h.0.0

    is : items_at k v ≡ Some us
    is = ap (items_at k) h.0.1 ∙ items_are k us

    by_rest : (o : Option (List (List Value))) → all_some (items_at k) vs ≡ o → ((ls : List (List Value)) → all_some (items_at k) vs ≡ Some ls → AllByRecursion (Has a) (flat_map (λ us. us) ls)) → AllByRecursion (Has a) (flat_map (λ us. us) lists)
    by_rest (Some ls) f g' =
        let g : Some (us ∷ ls) ≡ Some lists = sym (ap (option_map (λ q. us ∷ q)) f) ∙ sym (ap (λ o. option_and_then (λ y. option_map (λ q. y ∷ q) (all_some (items_at k) vs)) o) is) ∙ e in
        let same : us ∷ ls ≡ lists = cc in
        subst (λ q. AllByRecursion (Has a) (flat_map (λ us. us) q)) same (all_append (Has a) us (flat_map (λ us. us) ls) h.0.2 (g' ls f))
    by_rest None f g' =
        let g : None ≡ Some lists = sym (ap (option_map (λ q. us ∷ q)) f) ∙ sym (ap (λ o. option_and_then (λ y. option_map (λ q. y ∷ q) (all_some (items_at k) vs)) o) is) ∙ e in
        cc

flatten_typed : (k : Kind) (a : Ground) (v : Value) (n : Kind × List (List Value)) → Has (coll k (coll k a)) v → as_nested v ≡ Some n → Has (coll k a) (canonical n.0 (flat_map (λ us. us) n.1))
flatten_typed k a v n h e = by_lists (all_some (items_at k) h.0) refl
  where
    opened : as_nested v ≡ option_map (λ lists. (k, lists)) (all_some (items_at k) h.0)
    opened = ap (λ o. option_and_then (λ c. option_map (λ lists. (c.kind, lists)) (all_some (items_at c.kind) c.items)) o) (read k (coll k a) v h)

    by_lists : (o : Option (List (List Value))) → all_some (items_at k) h.0 ≡ o → Has (coll k a) (canonical n.0 (flat_map (λ us. us) n.1))
    by_lists (Some ls) f =
        let g : Some (k, ls) ≡ Some n = sym (ap (option_map (λ q. (k, q))) f) ∙ sym opened ∙ e in
        let same : (k, ls) ≡ n = cc in
        subst (λ m. Has (coll k a) (canonical m.0 (flat_map (λ us. us) m.1))) same (canonical_has k a _ (lists_typed k a h.0 ls h.2 f))
    by_lists None f = let g : None ≡ Some n = sym (ap (option_map (λ q. (k, q))) f) ∙ sym opened ∙ e in cc

found_int : (o : Option ℤ) → Has (coll kind.Set int) (set_of_found o)
found_int (Some n) = (value.Int n ∷ [], refl, (has_int n, tt))
found_int None = ([], refl, tt)

-- of two arguments of types
sound_pair : {X Y : Type 0} (t u a b : Ground) (as_x : Value → Option X) (as_y : Value → Option Y) (f : X → Y → Answer) (ts : List Ground) → ts ≡ a ∷ b ∷ [] → t ≡ u
    → ((v w : Value) (x : X) (y : Y) → Inhabits a v → Inhabits b w → as_x v ≡ Some x → as_y w ≡ Some y → Sound u (f x y)) → (vs : List Value) → HaveTypes ts vs → Sound t (two as_x as_y f vs)
sound_pair {X} {Y} t u a b as_x as_y f ts i e g vs h = go vs (along vs ts (a ∷ b ∷ []) i h)
  where
    go : (vs : List Value) → HaveTypes (a ∷ b ∷ []) vs → Sound t (two as_x as_y f vs)
    go [] h = tt
    go (v ∷ []) h = tt
    go (v ∷ w ∷ []) h =
        sound_some t (as_x v) (λ x. with_some (as_y w) (f x))
        (λ x j. sound_some t (as_y w) (f x) (λ y k. subst (λ q. Sound q (f x y)) (sym e) (g v w x y h.0 h.1.0 j k)))
    go (v ∷ w ∷ z ∷ vs) h = tt

-- the fields that a record of a type is read as
record_read : (r : Row) (v : Value) (fs : Fields) → Inhabits (rec r) v → as_record v ≡ Some fs → HasFields r fs × LabelsRise fs
record_read r v fs i e =
    let q : Some i.0.0 ≡ Some fs = sym (fields_are r v i.0) ∙ e in
    let same : i.0.0 ≡ fs = cc in
    (subst (HasFields r) same i.0.2, fields_rise fs (subst IsCanonical (i.0.1 ∙ ap value.Rec same) i.1))

sound_if : (b : Bool) (t : Ground) (v : Value) → Has t v → Sound t (cond b (gives v) senseless)
sound_if true t v h = h
sound_if false t v h = tt

extended_typed : (r s u : Row) → IsBoth r s u → (v w : Value) (fs gs : Fields) → Inhabits (rec r) v → Inhabits (rec s) w → as_record v ≡ Some fs → as_record w ≡ Some gs
    → Sound (rec u) (cond (share_none fs gs) (gives (value.Rec (in_order (fs ++ gs)))) senseless)
extended_typed r s u b v w fs gs i j e d =
    let f = record_read r v fs i e in
    let g = record_read s w gs j d in
    sound_if (share_none fs gs) (rec u) _ (in_order (fs ++ gs), refl, both_typed r s u b fs gs f.0 g.0 f.1 g.1)

rest_typed : (r s u : Row) → IsWithout (stands_in s) r u → (v w : Value) (fs gs : Fields) → Inhabits (rec r) v → Inhabits (rec s) w → as_record v ≡ Some fs → as_record w ≡ Some gs
    → Sound (rec u) (cond (has_all fs gs) (gives (value.Rec (without (is_label_of gs) fs))) senseless)
rest_typed r s u o v w fs gs i j e d =
    let f = record_read r v fs i e in
    let g = record_read s w gs j d in
    let by = without_by (stands_in s) (is_label_of gs) r u (λ l. sym (labels_stand s gs l g.0)) o in
    sound_if (has_all fs gs) (rec u) _ (without (is_label_of gs) fs, refl, without_typed (is_label_of gs) r u by fs f.1 f.0)

first_typed : (k : Kind) (a : Ground) (n : ℕ) (v : Value) (c : Collection) → Has (coll k a) v → as_collection v ≡ Some c → Has (coll k a) (collection c.kind (take n c.items))
first_typed k a n v c h e =
    subst (λ d. Has (coll k a) (collection d.kind (take n d.items))) (same_items k a v c h e) (take n h.0, refl, all_take (Has a) n h.0 h.2)

abbrev SoundAt : Primitive → Type 0
SoundAt r = (ts : List Ground) (t : Ground) (vs : List Value) → ShapeTypes r.entry.shape ts t → HaveTypes ts vs → Sound t (r.meaning vs)

sound_rows : AllByRecursion SoundAt rows
unfolding rows
sound_rows =
    (λ ts t vs s h. sound_two t bool as_any as_any _ s.2 (λ v w. has_bool _) vs) &
    (λ ts t vs s h. sound_two t bool as_any as_any _ s.2 (λ v w. has_bool _) vs) &
    (λ ts t vs s h. sound_two t bool as_any as_any _ s.2 (λ v w. has_bool _) vs) &
    (λ ts t vs s h. sound_two t bool as_any as_any _ s.2 (λ v w. has_bool _) vs) &
    (λ ts t vs s h. sound_two t bool as_any as_any _ s.2 (λ v w. has_bool _) vs) &
    (λ ts t vs s h. sound_two t bool as_any as_any _ s.2 (λ v w. has_bool _) vs) &
    (λ ts t vs s h. sound_two t int as_int as_int _ s.1 (λ m n. sound_exact (m +ℤ n)) vs) &
    (λ ts t vs s h. sound_two t int as_int as_int _ s.1 (λ m n. sound_exact (m -ℤ n)) vs) &
    (λ ts t vs s h. sound_two t int as_int as_int _ s.1 (λ m n. sound_exact (m *ℤ n)) vs) &
    (λ ts t vs s h. sound_one t int as_int _ s.1 (λ n. sound_exact (neg_ℤ n)) vs) &
    (λ ts t vs s h. sound_one t bool as_bool _ s.1 (λ b. has_bool _) vs) &
    (λ ts t vs s h. sound_two t str as_text as_text _ s.1 (λ v w. has_text _) vs) &
    (λ ts t vs s h. sound_one t bool as_collection _ s.3 (λ c. has_bool _) vs) &
    (λ ts t vs s h. sound_one t int as_collection _ s.3 (λ c. has_int _) vs) &
    (λ ts t vs s h. sound_one t int as_ints _ s.2 (λ ns. sound_exact (total ns)) vs) &
    (λ ts t vs s h. sound_two t bool as_any as_collection _ s.3 (λ v c. has_bool _) vs) &
    (λ ts t vs s h. sound_of t (coll s.0 s.1) (coll s.0 s.1) as_collection _ ts s.2 s.3 (λ v c i e. extreme_typed is_le s.0 s.1 v c i e) vs h) &
    (λ ts t vs s h. sound_of t (coll s.0 s.1) (coll s.0 s.1) as_collection _ ts s.2 s.3 (λ v c i e. extreme_typed is_ge s.0 s.1 v c i e) vs h) &
    (λ ts t vs s h. sound_of t (coll s.0 s.1) (coll s.0 (coll s.0 s.1)) as_nested _ ts s.2 s.3 (λ v n i e. flatten_typed s.0 s.1 v n i e) vs h) &
    (λ ts t vs s h. sound_of t (coll kind.Set s.1) (coll s.0 s.1) as_collection _ ts s.2 s.3 (λ v c i e. into_typed kind.Set s.0 s.1 v c i e) vs h) &
    (λ ts t vs s h. sound_of t (coll kind.Bag s.1) (coll s.0 s.1) as_collection _ ts s.2 s.3 (λ v c i e. into_typed kind.Bag s.0 s.1 v c i e) vs h) &
    (λ ts t vs s h. sound_of t (coll kind.List s.1) (coll s.0 s.1) as_collection _ ts s.2 s.3 (λ v c i e. into_typed kind.List s.0 s.1 v c i e) vs h) &
    (λ ts t vs s h. sound_one t int as_text _ s.1 (λ v. has_int _) vs) &
    (λ ts t vs s h. sound_two t bool as_text as_text _ s.1 (λ v w. has_bool _) vs) &
    (λ ts t vs s h. sound_one t (coll kind.Set int) as_text _ s.1 (λ v. found_int (number_in v)) vs) &
    (λ ts t vs s h. sound_one t str as_int _ s.1 (λ n. has_text _) vs) &
    (λ ts t vs s h. sound_pair t (rec s.2) (rec s.0) (rec s.1) as_record as_record _ ts s.3 s.4 (λ v w fs gs i j e d. extended_typed s.0 s.1 s.2 s.5 v w fs gs i j e d) vs h) &
    (λ ts t vs s h. sound_pair t (rec s.2) (rec s.0) (rec s.1) as_record as_record _ ts s.3 s.4 (λ v w fs gs i j e d. rest_typed s.0 s.1 s.2 s.6 v w fs gs i j e d) vs h) &
    (λ ts t vs s h. sound_pair t (coll s.0 s.1) int (coll s.0 s.1) as_int as_collection _ ts s.2 s.3 (λ v w n c i j e d. first_typed s.0 s.1 (number_of n) w c j.0 d) vs h) &
    (λ ts t vs s h. sound_two t bool as_text as_text _ s.1 (λ v w. has_bool _) vs) &
    tt

found_sound : (code : ℕ) (rs : List Primitive) → AllByRecursion SoundAt rs → IfSome (find (λ r. r.entry.code == code) rs) SoundAt
found_sound code [] h = tt
found_sound code (r ∷ rs) h =
    elim (r.entry.code == code) as (λ b. IfSome (cond b (Some r) (find (λ q. q.entry.code == code) rs)) SoundAt) [
      | true ↦ h.0
      | false ↦ found_sound code rs h.1
    ]

meaning_typed : (code : ℕ) (ts : List Ground) (t : Ground) (vs : List Value) → PrimTypes code ts t → HaveTypes ts vs → Sound t (meaning code vs)
unfolding PrimTypes meaning row_at
meaning_typed code ts t vs = go (find (λ r. r.entry.code == code) rows) (found_sound code rows sound_rows)
  where
    go : (o : Option Primitive) → IfSome o SoundAt → RowTypes o ts t → HaveTypes ts vs → Sound t (meaning_of o vs)
    go (Some r) g s h = g ts t vs s h
    go None g s h = absurd s

pub all_canonical : (ts : List Ground) (vs : List Value) → HaveTypes ts vs → AllByRecursion IsCanonical vs
all_canonical [] [] h = tt
all_canonical (t ∷ ts) (v ∷ vs) h = (h.0.1, all_canonical ts vs h.1)
all_canonical [] (v ∷ vs) h = absurd h
all_canonical (t ∷ ts) [] h = absurd h

-- a primitive of arguments of its types gives a value of its type, or overflows
pub prim_typed : (code : ℕ) (ts : List Ground) (t : Ground) (vs : List Value) → PrimTypes code ts t → HaveTypes ts vs → OfType t (answered (meaning code vs))
prim_typed code ts t vs p h =
    go (meaning code vs) (meaning_sense code vs (prim_fits code ts t vs p h)) (meaning_typed code ts t vs p h)
    (λ v e. meaning_canonical code vs v (All-from_recursion IsCanonical vs (all_canonical ts vs h)) e)
  where
    go : (a : Answer) → (a ≡ senseless → ⊥) → Sound t a → ((v : Value) → a ≡ gives v → IsCanonical v) → OfType t (answered a)
    go (gives v) s g c = (g, c v refl)
    go overflows s g c = over_nil t
    go senseless s g c = absurd (s refl)

-- how many arguments a call has
pub one_or_two : (sh : Shape) (ss : List Ground) (s : Ground) → ShapeTypes sh ss s → (length ss ≡ 1) ⊎ (length ss ≡ 2)
one_or_two shape.Compare ss s h = inr (ap length h.1)
one_or_two shape.IntOp ss s h = inr (ap length h.0)
one_or_two shape.IntFn ss s h = inl (ap length h.0)
one_or_two shape.BoolFn ss s h = inl (ap length h.0)
one_or_two shape.TextJoin ss s h = inr (ap length h.0)
one_or_two shape.CollTest ss s h = inl (ap length h.2)
one_or_two shape.CollCount ss s h = inl (ap length h.2)
one_or_two shape.CollSum ss s h = inl (ap length h.1)
one_or_two shape.Member ss s h = inr (ap length h.2)
one_or_two shape.CollSame ss s h = inl (ap length h.2)
one_or_two shape.Flatten ss s h = inl (ap length h.2)
one_or_two shape.ToSet ss s h = inl (ap length h.2)
one_or_two shape.ToBag ss s h = inl (ap length h.2)
one_or_two shape.ToList ss s h = inl (ap length h.2)
one_or_two shape.TextLen ss s h = inl (ap length h.0)
one_or_two shape.TextTest ss s h = inr (ap length h.0)
one_or_two shape.TextInts ss s h = inl (ap length h.0)
one_or_two shape.IntText ss s h = inl (ap length h.0)
one_or_two shape.Extend ss s h = inr (ap length h.3)
one_or_two shape.Rest ss s h = inr (ap length h.3)
one_or_two shape.Take ss s h = inr (ap length h.2)

-- two rows in one, by the primitive that joins records
pub extend_types : (r s u : Row) (t : Ground) → t ≡ rec u → IsBoth r s u → PrimTypes 27 (rec r ∷ rec s ∷ []) t
unfolding PrimTypes row_at rows
extend_types r s u t e b = (r, s, u, refl, e, b)
