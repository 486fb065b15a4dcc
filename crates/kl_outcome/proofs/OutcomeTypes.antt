-- The types of outcomes and of what is drawn, from the types of their parts.
use Rattle.std.proofs.Common.{◌≡◌, ◌≢◌, Bool, true, false, List, [], ◌∷◌, Option, Some, None, IsSome, All, nat_eq, refl, sym, ap, ◌∙◌, subst}
use Rattle.std.specs.Cmp.Lexicographic.{pointwise}
use Rattle.std.specs.List.{AllByRecursion, dedup}
use Rattle.std.specs.List.Sorted.{IsStrictlySortedBy}
use Rattle.std.specs.Ordering.{eq_by_cmp}
use Rattle.std.proofs.lemmas.List.Elements.{recursion_from_All, All-from_recursion}
use Rattle.std.proofs.lemmas.List.Filters.{All-dedup}
use Rattle.std.proofs.lemmas.Option.{same_Some}
use Rattle.kl_base.specs.Fields.{bytes_cmp, field, labels_of, LabelsRise}
use Rattle.kl_base.specs.Sorted.{sorted}
use Rattle.kl_base.proofs.SortedLemmas.{all-sorted}
use Rattle.kl_value.specs.Canon.{canonical}
use Rattle.kl_value.specs.Order.{compare}
use Rattle.kl_value.specs.IsCanonical.{IsCanonical, IsCanonicalLayer}
use Rattle.kl_value.specs.declared.Kind.{Kind}
use Rattle.kl_value.specs.declared.Kind.TheVariants as kind
use Rattle.kl_value.specs.declared.Value.{Value, Value-F, out-Value, map-Value, every-Value, every_held-Value}
use Rattle.kl_value.specs.declared.Value.TheVariants as value
use Rattle.kl_value.proofs.CanonLemmas.{canonical_keeps}
use Rattle.kl_value.proofs.OrderLemmas.{compare_total}
use Rattle.kl_type.specs.Ground.{Ground, Row, bool, int, str, rec, var, coll, arrow, no_row, row, at, labels_in}
use Rattle.kl_value.specs.Views.{as_bool, as_collection, field_at, field_layer}
use Rattle.kl_value.proofs.IsCanonicalLemmas.{items_canonical, record_made, variant_made}
use Rattle.kl_value.proofs.ViewLemmas.{collection_is}
pub use Rattle.kl_prim.proofs.RecordLemmas.{fields_canonical}
use Rattle.kl_outcome.specs.Outcome.{Name, Outcome, done, over, stuck, End, fine, overflow, broken, Flow, more, stop, flow, items_in, end_in, followed, drawn, after, outcome_of, args_then, parts_then, recorded, tagged, chosen, if_then, record_layer, as_record, variant_layer, as_variant, field_in, part, opened, cases, items_at_all, items_of, item_then, gathered, collected, joined_to, union_of}
use Rattle.kl_outcome.specs.Typed.{Has, HasFields, HasAt, Inhabits, HaveTypes, HasItems, OfType}

-- ---- what stands in canonical records and variants

abbrev Such : Type 0
Such = (v : Value) × every-Value IsCanonicalLayer v

held_carried : (x : Value-F Such) (l : Name) (v : Value) → map-Value Such Value (λ e. e.0) x ≡ Value-F.Inj l v → every-Value IsCanonicalLayer v
held_carried (Value-F.Inj m e) l v q = let same : e.0 ≡ v = cc in subst (every-Value IsCanonicalLayer) same e.1
held_carried x l v q = cc

pub carried_canonical : (l : Name) (v : Value) → IsCanonical (value.Inj l v) → IsCanonical v
unfolding IsCanonical
carried_canonical l v h = let held = every_held-Value IsCanonicalLayer (value.Inj l v) h in held_carried held.0 l v (held.1 ∙ value.outs-Inj l v)

-- ---- canonical collections of a type

both : (P Q : Value → Type 0) (vs : List Value) → AllByRecursion P vs → AllByRecursion Q vs → AllByRecursion (λ v. P v × Q v) vs
both P Q [] h g = tt
both P Q (v ∷ vs) h g = ((h.0, g.0), both P Q vs h.1 g.1)

first : (P Q : Value → Type 0) (vs : List Value) → AllByRecursion (λ v. P v × Q v) vs → AllByRecursion P vs
first P Q [] h = tt
first P Q (v ∷ vs) h = (h.0.0, first P Q vs h.1)

second : (P Q : Value → Type 0) (vs : List Value) → AllByRecursion (λ v. P v × Q v) vs → AllByRecursion Q vs
second P Q [] h = tt
second P Q (v ∷ vs) h = (h.0.1, second P Q vs h.1)

pub canonical_has : (k : Kind) (t : Ground) (vs : List Value) → AllByRecursion (Has t) vs → Has (coll k t) (canonical k vs)
unfolding canonical
canonical_has kind.Set t vs h =
    let up = all-sorted compare compare_total (Has t) vs h in
    (dedup (eq_by_cmp compare) (sorted compare vs), refl, recursion_from_All (Has t) _ (All-dedup (eq_by_cmp compare) (Has t) (sorted compare vs) (All-from_recursion (Has t) (sorted compare vs) up)))
canonical_has kind.Bag t vs h = (sorted compare vs, refl, all-sorted compare compare_total (Has t) vs h)
canonical_has kind.List t vs h = (vs, refl, h)

pub canonical_inhabits : (k : Kind) (t : Ground) (vs : List Value) → AllByRecursion (Inhabits t) vs → Inhabits (coll k t) (canonical k vs)
canonical_inhabits k t vs h =
    (canonical_has k t vs (first (Has t) IsCanonical vs h), canonical_keeps k vs (All-from_recursion IsCanonical vs (second (Has t) IsCanonical vs h)))

-- what a value of a collection type is read as, and its items
abbrev pub Items : Kind → Ground → Value → Type 0
Items k t v = (vs : List Value) × (as_collection v ≡ Some (record { kind = k; items = vs })) × AllByRecursion (Inhabits t) vs

pub items_inhabit : (k : Kind) (t : Ground) (v : Value) → Inhabits (coll k t) v → Items k t v
items_inhabit k t v h =
    let vs : List Value = h.0.0 in
    let good : All IsCanonical vs = items_canonical k vs (subst IsCanonical h.0.1 h.1) in
    (vs, ap as_collection h.0.1 ∙ collection_is k vs, both (Has t) IsCanonical vs h.0.2 (recursion_from_All IsCanonical vs good))

-- ---- outcomes

pub never_of : (t : Ground) (o : Outcome) → OfType t o → o ≢ stuck
never_of t (done v) h e = cc
never_of t (over vs) h e = cc
never_of t stuck h e = h

pub over_nil : (t : Ground) → HasItems t []
over_nil bool = refl
over_nil int = refl
over_nil str = refl
over_nil (rec r) = refl
over_nil (var r) = refl
over_nil (arrow a b) = refl
over_nil (coll kind.Set t) = refl
over_nil (coll kind.Bag t) = refl
over_nil (coll kind.List t) = tt

pub after_typed : (t u : Ground) (o : Outcome) (go : Value → Outcome) → OfType u o → ((v : Value) → Inhabits u v → OfType t (go v)) → OfType t (after o go)
after_typed t u (done v) go h g = g v h
after_typed t u (over vs) go h g = over_nil t
after_typed t u stuck go h g = absurd h

chosen_typed : (t : Ground) (b : Option Bool) (o q : Outcome) → IsSome b → OfType t o → OfType t q → OfType t (chosen b o q)
chosen_typed t (Some true) o q s h g = h
chosen_typed t (Some false) o q s h g = g
chosen_typed t None o q s h g = cc

pub choice_typed : (t : Ground) (c o q : Outcome) → OfType bool c → OfType t o → OfType t q → OfType t (if_then c o q)
choice_typed t c o q s h g = after_typed t bool c (λ v. chosen (as_bool v) o q) s (λ v i. chosen_typed t (as_bool v) o q i.0 h g)

-- ---- records

-- what a record of a type is read as
abbrev pub FieldsOf : Row → List (Name × Value) → Type 0
FieldsOf r fs = HasFields r fs × AllByRecursion (λ f. IsCanonical f.1) fs

pub labels_same : (r : Row) (fs : List (Name × Value)) → HasFields r fs → labels_of fs ≡ labels_in r
labels_same no_row fs h = ap labels_of h
labels_same (row l s r) fs h = ap labels_of h.2 ∙ ap (λ ls. l ∷ ls) (labels_same r h.1 h.4)

abbrev pub IsRecordOf : Row → Value → Type 0
IsRecordOf r v = (fs : List (Name × Value)) × (as_record v ≡ Some fs) × FieldsOf r fs

pub record_is : (r : Row) (v : Value) → Inhabits (rec r) v → IsRecordOf r v
record_is r v i =
    let fs : List (Name × Value) = i.0.0 in
    (fs, ap as_record i.0.1 ∙ ap record_layer (value.outs-Rec fs), (i.0.2, fields_canonical fs (subst IsCanonical i.0.1 i.1)))

abbrev pub Found : Name → Ground → List (Name × Value) → Type 0
Found l t fs = (v : Value) × (field l fs ≡ Some v) × Inhabits t v

pub field_typed : (r : Row) (l : Name) (t : Ground) (fs : List (Name × Value)) → FieldsOf r fs → at l r ≡ Some t → Found l t fs
field_typed no_row l t fs h e = absurd cc
field_typed (row m s r) l t fs h' e =
    let h = h'.0 in
    let all = subst (AllByRecursion (λ f. IsCanonical f.1)) h.2 h'.1 in
    subst (Found l t) (sym h.2) (by_bit (pointwise nat_eq l m) refl h.0 h.1 h.3 all (field_typed r l t h.1 (h.4, all.1)))
  where
    by_bit : (b : Bool) → pointwise nat_eq l m ≡ b → (v : Value) (fs : List (Name × Value)) → Has s v → AllByRecursion (λ f. IsCanonical f.1) ((m, v) ∷ fs) → (at l r ≡ Some t → Found l t fs) → Found l t ((m, v) ∷ fs)
    by_bit true is v fs has good next = (v, rw is refl, (subst (λ z. Has z v) (same_Some _ _ (rw is at e)) has, good.0))
    by_bit false is v fs has good next = let f = next (rw is at e) in (f.0, rw is f.1, f.2)

pub part_typed : (l : Name) (r : Row) (t : Ground) (o : Outcome) → OfType (rec r) o → at l r ≡ Some t → OfType t (part l o)
part_typed l r t o h e = after_typed t (rec r) o (λ v. field_in l (as_record v)) h got
  where
    got : (v : Value) → Inhabits (rec r) v → OfType t (field_in l (as_record v))
    got v i =
        let g = record_is r v i in
        let f = field_typed r l t g.0 g.2 e in
        let is : field_in l (as_record v) ≡ done f.0 = ap (field_in l) g.1 ∙ ap outcome_of f.1 in
        subst (OfType t) (sym is) f.2

field_same : (l : Name) (x : Value-F Value) → field_in l (record_layer x) ≡ outcome_of (field_layer l x)
field_same l (Value-F.Rec fs) = refl
field_same l x = refl

-- a field as values are looked at
pub part_is : (l : Name) (v : Value) → field_in l (as_record v) ≡ outcome_of (field_at l v)
part_is l v = field_same l (out-Value v)

-- outcomes at labels, of the types of a row
abbrev pub PartsOf : List (Name × Outcome) → Row → Type 0
PartsOf [] r = r ≡ no_row
PartsOf (p ∷ ps) r = (s : Ground) × (rest : Row) × (r ≡ row p.0 s rest) × OfType s p.1 × PartsOf ps rest

parts_then_typed : (t : Ground) (ps : List (Name × Outcome)) (r : Row) (go : List (Name × Value) → Outcome) → PartsOf ps r
    → ((fs : List (Name × Value)) → FieldsOf r fs → labels_of fs ≡ labels_of ps → OfType t (go fs)) → OfType t (parts_then ps go)
parts_then_typed t [] r go h g = g [] (subst (λ q. HasFields q []) (sym h) refl, tt) refl
parts_then_typed t (p ∷ ps) r go h g =
    after_typed t h.0 p.1 (λ v. parts_then ps (λ fs. go ((p.0, v) ∷ fs))) h.3
    (λ v i. parts_then_typed t ps h.1 (λ fs. go ((p.0, v) ∷ fs)) h.4
    (λ fs k e. g ((p.0, v) ∷ fs) (subst (λ q. HasFields q ((p.0, v) ∷ fs)) (sym h.2) (v, fs, refl, i.0, k.0), (i.1, k.1)) (ap (λ ls. p.0 ∷ ls) e)))

pub recorded_typed : (ps : List (Name × Outcome)) (r : Row) → PartsOf ps r → LabelsRise ps → OfType (rec r) (recorded ps)
recorded_typed ps r h up =
    parts_then_typed (rec r) ps r (λ fs. done (value.Rec fs)) h
    (λ fs k e. ((fs, refl, k.0), record_made fs k.1 (subst (IsStrictlySortedBy bytes_cmp) (sym e) up)))

-- ---- variants

pub has_at : (r : Row) (l : Name) (s : Ground) (v : Value) → at l r ≡ Some s → Has s v → HasAt r l v
has_at no_row l s v e h = absurd cc
has_at (row m u r) l s v e h = by_bit (pointwise nat_eq l m) refl (λ f. has_at r l s v f h)
  where
    by_bit : (b : Bool) → pointwise nat_eq l m ≡ b → (at l r ≡ Some s → HasAt r l v) → HasAt (row m u r) l v
    by_bit true is next = rw is (subst (λ z. Has z v) (sym (same_Some _ _ (rw is at e))) h)
    by_bit false is next = rw is (next (rw is at e))

abbrev pub Carries : Row → Name → Value → Type 0
Carries r l v = (s : Ground) × (at l r ≡ Some s) × Has s v

pub at_has : (r : Row) (l : Name) (v : Value) → HasAt r l v → Carries r l v
at_has no_row l v h = absurd h
at_has (row m u r) l v h = by_bit (pointwise nat_eq l m) refl (at_has r l v)
  where
    by_bit : (b : Bool) → pointwise nat_eq l m ≡ b → (HasAt r l v → Carries r l v) → Carries (row m u r) l v
    by_bit true is next = (u, rw is refl, rw is at h)
    by_bit false is next = let f = next (rw is at h) in (f.0, rw is f.1, f.2)

pub tagged_typed : (l : Name) (r : Row) (s : Ground) (o : Outcome) → at l r ≡ Some s → OfType s o → OfType (var r) (tagged l o)
tagged_typed l r s o e h = after_typed (var r) s o (λ v. done (value.Inj l v)) h (λ v i. ((l, v, refl, has_at r l s v e i.0), variant_made l v i.1))

-- what a variant of a type is read as
abbrev pub IsVariantOf : Row → Value → Type 0
IsVariantOf r v = (l : Name) × (s : Ground) × (w : Value) × (as_variant v ≡ Some (l, w)) × (at l r ≡ Some s) × Inhabits s w

pub variant_is : (r : Row) (v : Value) → Inhabits (var r) v → IsVariantOf r v
variant_is r v i =
    let l : Name = i.0.0 in
    let w : Value = i.0.1 in
    let f = at_has r l w i.0.3 in
    (l, f.0, w, ap as_variant i.0.2 ∙ ap variant_layer (value.outs-Inj l w), f.1, (f.2, carried_canonical l w (subst IsCanonical i.0.2 i.1)))

pub cases_typed : (r : Row) (t : Ground) (o : Outcome) (go : Name → Value → Outcome) → OfType (var r) o
    → ((l : Name) (s : Ground) (v : Value) → at l r ≡ Some s → Inhabits s v → OfType t (go l v)) → OfType t (cases o go)
cases_typed r t o go h g = after_typed t (var r) o (λ v. opened (as_variant v) go) h got
  where
    got : (v : Value) → Inhabits (var r) v → OfType t (opened (as_variant v) go)
    got v i =
        let f = variant_is r v i in
        subst (OfType t) (sym (ap (λ q. opened q go) f.3)) (g f.0 f.1 f.2 f.4 f.5)

-- ---- arguments

-- outcomes of these types, one each
abbrev pub ArgsOf : List Outcome → List Ground → Type 0
ArgsOf [] ts = ts ≡ []
ArgsOf (o ∷ os) ts = (t : Ground) × (rest : List Ground) × (ts ≡ t ∷ rest) × OfType t o × ArgsOf os rest

pub args_then_typed : (t : Ground) (os : List Outcome) (ts : List Ground) (go : List Value → Outcome) → ArgsOf os ts
    → ((vs : List Value) → HaveTypes ts vs → OfType t (go vs)) → OfType t (args_then os go)
args_then_typed t [] ts go h g = g [] (subst (λ us. HaveTypes us []) (sym h) tt)
args_then_typed t (o ∷ os) ts go h g =
    after_typed t h.0 o (λ v. args_then os (λ vs. go (v ∷ vs))) h.3
    (λ v i. args_then_typed t os h.1 (λ vs. go (v ∷ vs)) h.4 (λ vs have. g (v ∷ vs) (subst (λ us. HaveTypes us (v ∷ vs)) (sym h.2) (i, have))))

-- ---- what is drawn

-- items of a type, and an end that makes sense
abbrev pub FlowOf : Ground → Flow → Type 0
FlowOf t (more v f) = Inhabits t v × FlowOf t f
FlowOf t (stop fine) = Unit {0}
FlowOf t (stop overflow) = Unit {0}
FlowOf t (stop broken) = ⊥

pub followed_typed : (t : Ground) (f g : Flow) → FlowOf t f → FlowOf t g → FlowOf t (followed f g)
followed_typed t (more v f) g h k = (h.0, followed_typed t f g h.1 k)
followed_typed t (stop fine) g h k = k
followed_typed t (stop overflow) g h k = tt
followed_typed t (stop broken) g h k = absurd h

pub drawn_typed : (t u : Ground) (f : Flow) (go : Value → Flow) → FlowOf u f → ((v : Value) → Inhabits u v → FlowOf t (go v)) → FlowOf t (drawn f go)
drawn_typed t u (more v f) go h g = followed_typed t (go v) (drawn f go) (g v h.0) (drawn_typed t u f go h.1 g)
drawn_typed t u (stop fine) go h g = tt
drawn_typed t u (stop overflow) go h g = tt
drawn_typed t u (stop broken) go h g = absurd h

flow_typed : (t : Ground) (vs : List Value) (e : End) → AllByRecursion (Inhabits t) vs → FlowOf t (stop e) → FlowOf t (flow vs e)
flow_typed t [] e h g = g
flow_typed t (v ∷ vs) e h g = (h.0, flow_typed t vs e h.1 g)

over_items : (k : Kind) (t : Ground) (vs : List Value) → HasItems (coll k t) vs → AllByRecursion (Inhabits t) vs
over_items kind.Set t vs h = subst (AllByRecursion (Inhabits t)) (sym h) tt
over_items kind.Bag t vs h = subst (AllByRecursion (Inhabits t)) (sym h) tt
over_items kind.List t vs h = h

pub items_typed : (k : Kind) (t : Ground) (o : Outcome) → OfType (coll k t) o → FlowOf t (items_of o)
items_typed k t (done v) h = let i = items_inhabit k t v h in subst (λ c. FlowOf t (items_at_all c)) (sym i.1) (flow_typed t i.0 fine i.2 tt)
items_typed k t (over vs) h = flow_typed t vs overflow (over_items k t vs h) tt
items_typed k t stuck h = absurd h

pub item_typed : (t : Ground) (o : Outcome) (f : Flow) → OfType t o → FlowOf t f → FlowOf t (item_then o f)
item_typed t (done v) f h g = (h, g)
item_typed t (over vs) f h g = tt
item_typed t stuck f h g = absurd h

items_all : (t : Ground) (f : Flow) → FlowOf t f → AllByRecursion (Inhabits t) (items_in f)
items_all t (more v f) h = (h.0, items_all t f h.1)
items_all t (stop e) h = tt

end_good : (t : Ground) (f : Flow) → FlowOf t f → FlowOf t (stop (end_in f))
end_good t (more v f) h = end_good t f h.1
end_good t (stop e) h = h

gathered_typed : (k : Kind) (t : Ground) (e : End) (vs : List Value) → FlowOf t (stop e) → AllByRecursion (Inhabits t) vs → OfType (coll k t) (gathered k e vs)
gathered_typed k t fine vs g h = canonical_inhabits k t vs h
gathered_typed kind.Set t overflow vs g h = refl
gathered_typed kind.Bag t overflow vs g h = refl
gathered_typed kind.List t overflow vs g h = h
gathered_typed k t broken vs g h = absurd g

pub collected_typed : (k : Kind) (t : Ground) (f : Flow) → FlowOf t f → OfType (coll k t) (collected k f)
collected_typed k t f h = gathered_typed k t (end_in f) (items_in f) (end_good t f h) (items_all t f h)

pub union_typed : (k : Kind) (t : Ground) (o q : Outcome) → OfType (coll k t) o → OfType (coll k t) q → OfType (coll k t) (union_of o q)
union_typed k t (done v) q h g =
    let i = items_inhabit k t v h in
    subst (λ c. OfType (coll k t) (joined_to c q)) (sym i.1)
    (collected_typed k t (followed (flow i.0 fine) (items_of q)) (followed_typed t (flow i.0 fine) (items_of q) (flow_typed t i.0 fine i.2 tt) (items_typed k t q g)))
union_typed k t (over vs) q h g = h
union_typed k t stuck q h g = absurd h
