-- Which types the values of each shape have.
use Rattle.std.proofs.Common.{◌≡◌, ℕ, ℤ, Bool, true, false, cond, List, [], ◌∷◌, Some, IsSome, nat_eq, refl, sym, ap, ◌∙◌, subst}
use Rattle.std.specs.Cmp.Lexicographic.{pointwise}
use Rattle.std.specs.List.{All, AllByRecursion}
use Rattle.std.proofs.lemmas.List.Elements.{All-from_recursion, recursion_from_All}
use Rattle.kl_base.specs.Fields.{LabelsRise}
use Rattle.kl_value.specs.IsCanonical.{IsCanonical, IsCanonicalLayer}
use Rattle.kl_value.specs.Views.{bool_layer, int_layer, bytes_layer, collection}
use Rattle.kl_value.specs.declared.value.Kind.{Kind}
use Rattle.kl_value.specs.declared.value.Kind.TheVariants as kind
use Rattle.kl_value.specs.declared.value.Value.{Value, Value-F, out-Value, every_here-Value}
use Rattle.kl_value.specs.declared.value.Value.TheVariants as value
use Rattle.kl_value.proofs.IsCanonicalLemmas.{bool_made, int_made, text_made, variant_made, record_made, items_canonical}
use Rattle.kl_type.specs.Ground.{Ground, Row, bool, int, str, rec, var, coll, arrow, no_row, row, at, IsGround, IsRow}
use Rattle.kl_outcome.specs.Typed.{Has, HasFields, HasAt, Inhabits}
use Rattle.kl_outcome.proofs.OutcomeTypes.{fields_canonical, carried_canonical, at_has, has_at}
use Rattle.kl_forms.specs.Constants.{ValueFields, row_with, EachHas}

false_some : false ≡ true → ⊥
false_some h = cc

-- one layer
abbrev layer_of : Kind → List Value → Value-F Value
layer_of kind.Set vs = Value-F.Set vs
layer_of kind.Bag vs = Value-F.Bag vs
layer_of kind.List vs = Value-F.List vs

outs : (k : Kind) (vs : List Value) → out-Value (collection k vs) ≡ layer_of k vs
outs kind.Set vs = value.outs-Set vs
outs kind.Bag vs = value.outs-Bag vs
outs kind.List vs = value.outs-List vs

abbrev Layer : Ground → Value-F Value → Type 0
Layer bool x = IsSome (bool_layer x)
Layer int x = IsSome (int_layer x)
Layer str x = IsSome (bytes_layer x)
Layer (rec r) x = (fs : ValueFields) × (x ≡ Value-F.Rec fs) × HasFields r fs
Layer (var r) x = (l : List ℕ) × (w : Value) × (x ≡ Value-F.Inj l w) × HasAt r l w
Layer (coll k t) x = (vs : List Value) × (x ≡ layer_of k vs) × AllByRecursion (Has t) vs
Layer (arrow a b) x = ⊥

to_layer : (t : Ground) (v : Value) (x : Value-F Value) → out-Value v ≡ x → Has t v → Layer t x
to_layer bool v x e h = subst (λ y. IsSome (bool_layer y)) e h
to_layer int v x e h = subst (λ y. IsSome (int_layer y)) e h
to_layer str v x e h = subst (λ y. IsSome (bytes_layer y)) e h
to_layer (rec r) v x e h = (h.0, sym e ∙ (ap out-Value h.1 ∙ value.outs-Rec h.0), h.2)
to_layer (var r) v x e h = (h.0, h.1, sym e ∙ (ap out-Value h.2 ∙ value.outs-Inj h.0 h.1), h.3)
to_layer (coll k t) v x e h = (h.0, sym e ∙ (ap out-Value h.1 ∙ outs k h.0), h.2)
to_layer (arrow a b) v x e h = h

bool_layer_type : (t : Ground) (b : Bool) → Layer t (Value-F.Bool b) → t ≡ bool
bool_layer_type bool b h = refl
bool_layer_type int b h = absurd (false_some h)
bool_layer_type str b h = absurd (false_some h)
bool_layer_type (rec r) b h = let e = h.1 in let z : ⊥ = cc in absurd z
bool_layer_type (var r) b h = let e = h.2 in let z : ⊥ = cc in absurd z
bool_layer_type (coll kind.Set t) b h = let e = h.1 in let z : ⊥ = cc in absurd z
bool_layer_type (coll kind.Bag t) b h = let e = h.1 in let z : ⊥ = cc in absurd z
bool_layer_type (coll kind.List t) b h = let e = h.1 in let z : ⊥ = cc in absurd z
bool_layer_type (arrow x y) b h = absurd h

pub bool_type : (t : Ground) (v : Value) (b : Bool) → v ≡ value.Bool b → Inhabits t v → t ≡ bool
bool_type t v b e h = bool_layer_type t b (to_layer t v (Value-F.Bool b) (ap out-Value e ∙ value.outs-Bool b) h.0)

pub bool_has : (t : Ground) (v : Value) (b : Bool) → v ≡ value.Bool b → t ≡ bool → Inhabits t v
bool_has t v b e q = subst (λ t. Inhabits t v) (sym q) (subst (Inhabits bool) (sym e) (subst (λ x. IsSome (bool_layer x)) (sym (value.outs-Bool b)) refl, bool_made b))

int_layer_type : (t : Ground) (b : ℤ) → Layer t (Value-F.Int b) → t ≡ int
int_layer_type bool b h = absurd (false_some h)
int_layer_type int b h = refl
int_layer_type str b h = absurd (false_some h)
int_layer_type (rec r) b h = let e = h.1 in let z : ⊥ = cc in absurd z
int_layer_type (var r) b h = let e = h.2 in let z : ⊥ = cc in absurd z
int_layer_type (coll kind.Set t) b h = let e = h.1 in let z : ⊥ = cc in absurd z
int_layer_type (coll kind.Bag t) b h = let e = h.1 in let z : ⊥ = cc in absurd z
int_layer_type (coll kind.List t) b h = let e = h.1 in let z : ⊥ = cc in absurd z
int_layer_type (arrow x y) b h = absurd h

pub int_type : (t : Ground) (v : Value) (b : ℤ) → v ≡ value.Int b → Inhabits t v → t ≡ int
int_type t v b e h = int_layer_type t b (to_layer t v (Value-F.Int b) (ap out-Value e ∙ value.outs-Int b) h.0)

pub int_has : (t : Ground) (v : Value) (b : ℤ) → v ≡ value.Int b → t ≡ int → Inhabits t v
int_has t v b e q = subst (λ t. Inhabits t v) (sym q) (subst (Inhabits int) (sym e) (subst (λ x. IsSome (int_layer x)) (sym (value.outs-Int b)) refl, int_made b))

text_layer_type : (t : Ground) (b : List ℕ) → Layer t (Value-F.Text b) → t ≡ str
text_layer_type bool b h = absurd (false_some h)
text_layer_type int b h = absurd (false_some h)
text_layer_type str b h = refl
text_layer_type (rec r) b h = let e = h.1 in let z : ⊥ = cc in absurd z
text_layer_type (var r) b h = let e = h.2 in let z : ⊥ = cc in absurd z
text_layer_type (coll kind.Set t) b h = let e = h.1 in let z : ⊥ = cc in absurd z
text_layer_type (coll kind.Bag t) b h = let e = h.1 in let z : ⊥ = cc in absurd z
text_layer_type (coll kind.List t) b h = let e = h.1 in let z : ⊥ = cc in absurd z
text_layer_type (arrow x y) b h = absurd h

pub text_type : (t : Ground) (v : Value) (b : List ℕ) → v ≡ value.Text b → Inhabits t v → t ≡ str
text_type t v b e h = text_layer_type t b (to_layer t v (Value-F.Text b) (ap out-Value e ∙ value.outs-Text b) h.0)

pub text_has : (t : Ground) (v : Value) (b : List ℕ) → v ≡ value.Text b → t ≡ str → Inhabits t v
text_has t v b e q = subst (λ t. Inhabits t v) (sym q) (subst (Inhabits str) (sym e) (subst (λ x. IsSome (bytes_layer x)) (sym (value.outs-Text b)) refl, text_made b))

record_layer_type : (t : Ground) (fs : ValueFields) → Layer t (Value-F.Rec fs) → (r : Row) × (t ≡ rec r) × HasFields r fs
record_layer_type bool fs h = absurd (false_some h)
record_layer_type int fs h = absurd (false_some h)
record_layer_type str fs h = absurd (false_some h)
record_layer_type (rec r) fs h = (r, refl, let e = h.1 in let same : h.0 ≡ fs = cc in subst (HasFields r) same h.2)
record_layer_type (var r) fs h = let e = h.2 in let z : ⊥ = cc in absurd z
record_layer_type (coll kind.Set t) fs h = let e = h.1 in let z : ⊥ = cc in absurd z
record_layer_type (coll kind.Bag t) fs h = let e = h.1 in let z : ⊥ = cc in absurd z
record_layer_type (coll kind.List t) fs h = let e = h.1 in let z : ⊥ = cc in absurd z
record_layer_type (arrow x y) fs h = absurd h

variant_layer_type : (t : Ground) (l : List ℕ) (w : Value) → Layer t (Value-F.Inj l w) → (r : Row) × (t ≡ var r) × HasAt r l w
variant_layer_type bool l w h = absurd (false_some h)
variant_layer_type int l w h = absurd (false_some h)
variant_layer_type str l w h = absurd (false_some h)
variant_layer_type (rec r) l w h = let e = h.1 in let z : ⊥ = cc in absurd z
variant_layer_type (var r) l w h = (r, refl, let e = h.2 in let p : h.0 ≡ l = cc in let q : h.1 ≡ w = cc in subst (λ x. HasAt r x w) p (subst (HasAt r h.0) q h.3))
variant_layer_type (coll kind.Set t) l w h = let e = h.1 in let z : ⊥ = cc in absurd z
variant_layer_type (coll kind.Bag t) l w h = let e = h.1 in let z : ⊥ = cc in absurd z
variant_layer_type (coll kind.List t) l w h = let e = h.1 in let z : ⊥ = cc in absurd z
variant_layer_type (arrow x y) l w h = absurd h

same_layer : (j k : Kind) (vs ws : List Value) → layer_of j vs ≡ layer_of k ws → (k ≡ j) × (ws ≡ vs)
same_layer kind.Set kind.Set vs ws e = (refl, cc)
same_layer kind.Set kind.Bag vs ws e = let z : ⊥ = cc in absurd z
same_layer kind.Set kind.List vs ws e = let z : ⊥ = cc in absurd z
same_layer kind.Bag kind.Set vs ws e = let z : ⊥ = cc in absurd z
same_layer kind.Bag kind.Bag vs ws e = (refl, cc)
same_layer kind.Bag kind.List vs ws e = let z : ⊥ = cc in absurd z
same_layer kind.List kind.Set vs ws e = let z : ⊥ = cc in absurd z
same_layer kind.List kind.Bag vs ws e = let z : ⊥ = cc in absurd z
same_layer kind.List kind.List vs ws e = (refl, cc)

items_layer_type : (k : Kind) (t : Ground) (vs : List Value) → Layer t (layer_of k vs) → (a : Ground) × (t ≡ coll k a) × AllByRecursion (Has a) vs
items_layer_type kind.Set bool vs h = absurd (false_some h)
items_layer_type kind.Set int vs h = absurd (false_some h)
items_layer_type kind.Set str vs h = absurd (false_some h)
items_layer_type kind.Set (rec r) vs h = let e = h.1 in let z : ⊥ = cc in absurd z
items_layer_type kind.Set (var r) vs h = let e = h.2 in let z : ⊥ = cc in absurd z
items_layer_type kind.Bag bool vs h = absurd (false_some h)
items_layer_type kind.Bag int vs h = absurd (false_some h)
items_layer_type kind.Bag str vs h = absurd (false_some h)
items_layer_type kind.Bag (rec r) vs h = let e = h.1 in let z : ⊥ = cc in absurd z
items_layer_type kind.Bag (var r) vs h = let e = h.2 in let z : ⊥ = cc in absurd z
items_layer_type kind.List bool vs h = absurd (false_some h)
items_layer_type kind.List int vs h = absurd (false_some h)
items_layer_type kind.List str vs h = absurd (false_some h)
items_layer_type kind.List (rec r) vs h = let e = h.1 in let z : ⊥ = cc in absurd z
items_layer_type kind.List (var r) vs h = let e = h.2 in let z : ⊥ = cc in absurd z
items_layer_type k (coll j a) vs h = let e = same_layer k j vs h.0 h.1 in (a, ap (λ i. coll i a) e.0, subst (AllByRecursion (Has a)) e.1 h.2)
items_layer_type k (arrow x y) vs h = absurd h

-- canonical parts
labels_canonical : (fs : ValueFields) → IsCanonical (value.Rec fs) → LabelsRise fs
unfolding IsCanonical
labels_canonical fs h = subst IsCanonicalLayer (value.outs-Rec fs) (every_here-Value IsCanonicalLayer (value.Rec fs) h)

-- collections
pub items_type : (k : Kind) (t : Ground) (v : Value) (vs : List Value) → v ≡ collection k vs → Inhabits t v → (a : Ground) × (t ≡ coll k a) × All (Inhabits a) vs
items_type k t v vs e h =
    let w = items_layer_type k t vs (to_layer t v (layer_of k vs) (ap out-Value e ∙ outs k vs) h.0) in
    let has = All-from_recursion (Has w.0) vs w.2 in
    let good = items_canonical k vs (subst IsCanonical e h.1) in
    (w.0, w.1, λ i d lt. (has i d lt, good i d lt))

pub items_has : (k : Kind) (t : Ground) (v : Value) (vs : List Value) → v ≡ collection k vs → (AllByRecursion IsCanonical vs → IsCanonical (collection k vs)) → (a : Ground) → t ≡ coll k a → All (Inhabits a) vs → Inhabits t v
items_has k t v vs e up a q h =
    subst (λ t. Inhabits t v) (sym q)
    (subst (Inhabits (coll k a)) (sym e) ((vs, refl, recursion_from_All (Has a) vs (λ i d lt. (h i d lt).0)), up (recursion_from_All IsCanonical vs (λ i d lt. (h i d lt).1))))

-- variants
at_ground : (r : Row) (l : List ℕ) (a : Ground) → IsRow r → at l r ≡ Some a → IsGround a
at_ground no_row l a g e = cc
at_ground (row m t r) l a g e = by (pointwise nat_eq l m) (λ k. at_ground r l a g.2 k) e
  where
    by : (b : Bool) → (at l r ≡ Some a → IsGround a) → cond b (Some t) (at l r) ≡ Some a → IsGround a
    by true go k = let same : t ≡ a = cc in subst IsGround same g.1
    by false go k = go k

pub variant_type : (t : Ground) (v : Value) (l : List ℕ) (w : Value) → v ≡ value.Inj l w → IsGround t → Inhabits t v → (a : Ground) × IsGround a × ((r : Row) × (t ≡ var r) × (at l r ≡ Some a)) × Inhabits a w
variant_type t v l w e g h =
    let k = variant_layer_type t l w (to_layer t v (Value-F.Inj l w) (ap out-Value e ∙ value.outs-Inj l w) h.0) in
    let x = at_has k.0 l w k.2 in
    (x.0, at_ground k.0 l x.0 (subst IsGround k.1 g).1 x.1, (k.0, k.1, x.1), (x.2, carried_canonical l w (subst IsCanonical e h.1)))

pub variant_has : (t : Ground) (v : Value) (l : List ℕ) (w : Value) → v ≡ value.Inj l w → (a : Ground) (r : Row) → t ≡ var r → at l r ≡ Some a → Inhabits a w → Inhabits t v
variant_has t v l w e a r q f h = subst (λ t. Inhabits t v) (sym q) (subst (Inhabits (var r)) (sym e) ((l, w, refl, has_at r l a w f h.0), variant_made l w h.1))

-- records
fields_type : (r : Row) (fs : ValueFields) → HasFields r fs → AllByRecursion (λ f. IsCanonical f.1) fs → (ts : List Ground) × (r ≡ row_with fs ts) × EachHas ts fs
fields_type no_row [] h c = ([], refl, tt)
fields_type no_row (f ∷ fs) h c = let z : ⊥ = cc in absurd z
fields_type (row l t r) [] h c = let e = h.2 in let z : ⊥ = cc in absurd z
fields_type (row l t r) (f ∷ fs) h c =
    let e = h.2 in
    let one : f ≡ (l, h.0) = cc in
    let rest : fs ≡ h.1 = cc in
    let w = fields_type r fs (subst (HasFields r) (sym rest) h.4) c.1 in
    (t ∷ w.0, ap (λ m. row m t r) (sym (ap (λ g. g.0) one)) ∙ ap (row f.0 t) w.1, ((subst (Has t) (sym (ap (λ g. g.1) one)) h.3, c.0), w.2))

fields_has : (fs : ValueFields) (ts : List Ground) → EachHas ts fs → HasFields (row_with fs ts) fs
fields_has [] ts h = refl
fields_has (f ∷ fs) [] h = absurd h
fields_has (f ∷ fs) (t ∷ ts) h = (f.1, fs, refl, h.0.0, fields_has fs ts h.1)

each_canonical : (fs : ValueFields) (ts : List Ground) → EachHas ts fs → AllByRecursion (λ f. IsCanonical f.1) fs
each_canonical [] ts h = tt
each_canonical (f ∷ fs) [] h = absurd h
each_canonical (f ∷ fs) (t ∷ ts) h = (h.0.1, each_canonical fs ts h.1)

pub record_type : (t : Ground) (v : Value) (fs : ValueFields) → v ≡ value.Rec fs → Inhabits t v → (ts : List Ground) × (t ≡ rec (row_with fs ts)) × EachHas ts fs
record_type t v fs e h =
    let k = record_layer_type t fs (to_layer t v (Value-F.Rec fs) (ap out-Value e ∙ value.outs-Rec fs) h.0) in
    let w = fields_type k.0 fs k.2 (fields_canonical fs (subst IsCanonical e h.1)) in
    (w.0, k.1 ∙ ap rec w.1, w.2)

pub record_has : (t : Ground) (v : Value) (fs : ValueFields) → v ≡ value.Rec fs → LabelsRise fs → (ts : List Ground) → t ≡ rec (row_with fs ts) → EachHas ts fs → Inhabits t v
record_has t v fs e up ts q h =
    subst (λ t. Inhabits t v) (sym q) (subst (Inhabits (rec (row_with fs ts))) (sym e) ((fs, refl, fields_has fs ts h), record_made fs (each_canonical fs ts h) up))

pub record_rises : (t : Ground) (v : Value) (fs : ValueFields) → v ≡ value.Rec fs → Inhabits t v → LabelsRise fs
record_rises t v fs e h = labels_canonical fs (subst IsCanonical e h.1)
