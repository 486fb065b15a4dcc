-- A term without variants and empty collections has one type.
use Rattle.std.proofs.Common.{◌≡◌, ℕ, Bool, true, false, ◌&&◌, List, [], ◌∷◌, map, Option, Some, None, is_some, IsSome, cond, refl, sym, ap, ap₂, subst, ◌∙◌}
use Rattle.std.specs.List.{AllByRecursion}
use Rattle.std.proofs.lemmas.Option.{same_Some}
use Rattle.kl_value.specs.declared.Kind.{Kind}
use Rattle.kl_value.specs.declared.Kind.TheVariants as kind
use Rattle.kl_value.specs.declared.Value.{Value, Value-F, out-Value, map-Value, fold_out-Value}
use Rattle.kl_value.specs.declared.Value.TheVariants as value
use Rattle.kl_value.specs.Views.{as_collection, collection, bool_layer, int_layer, bytes_layer}
use Rattle.kl_value.proofs.ViewLemmas.{collection_is}
use Rattle.kl_prim.specs.Table.{Row as Primitive, row_at}
use Rattle.kl_prim.specs.declared.rows.Shape.{Shape}
use Rattle.kl_prim.specs.declared.rows.Shape.TheVariants as shape
use Rattle.kl_type.specs.Ground.{Ground, Row, bool, int, str, rec as rec_type, var as var_type, coll, arrow, no_row, row, at}
use Rattle.kl_outcome.specs.Outcome.{Name}
use Rattle.kl_outcome.specs.Typed.{Has, HasFields, IsBoth, IsWithout, stands_in, ShapeTypes, RowTypes, PrimTypes}
use Rattle.kl_core.specs.Trees.{Tree, Var, Const, Source, Rec, Proj, Inj, Case, Make, Union, Ext, If, Let, Prim, Trees, no_trees, trees, Parts, no_parts, parts, no_arms, rest, arm}
use Rattle.kl_type.proofs.RowLemmas as rows
use Rattle.kl_type.proofs.RowLemmas.{same_label}
use Rattle.kl_core.specs.Typing.{SourceTypes, CoreTypes, AllTypes, PartTypes, Covers}
use Rattle.kl_core.proofs.Proper.{types_proper}
use Rattle.kl_rules.specs.Guards.{plain_layer, plain_value, all_plain, fields_plain, some_plain, plain_in, plain_trees, plain_parts, plain_arms}
use Rattle.kl_outcome.proofs.Having.{both_true}

-- ---- values

pub plain-out : (v : Value) → plain_value v ≡ plain_layer (map-Value Value Bool plain_value (out-Value v))
unfolding plain_value
plain-out v = fold_out-Value Bool plain_layer v

pub plain_at : (v : Value) (x : Value-F Value) → out-Value v ≡ x → plain_value v ≡ plain_layer (map-Value Value Bool plain_value x)
plain_at v x e = plain-out v ∙ ap (λ y. plain_layer (map-Value Value Bool plain_value y)) e

pub plain_items : (k : Kind) (vs : List Value) → plain_value (collection k vs) ≡ some_plain (map plain_value vs)
plain_items kind.Set vs = plain_at _ _ (value.outs-Set vs)
plain_items kind.Bag vs = plain_at _ _ (value.outs-Bag vs)
plain_items kind.List vs = plain_at _ _ (value.outs-List vs)

pub plain_fields : (fs : List (Name × Value)) → plain_value (value.Rec fs) ≡ fields_plain (map (λ f. (f.0, plain_value f.1)) fs)
plain_fields fs = plain_at _ _ (value.outs-Rec fs)

pub plain_variant : (l : Name) (v : Value) → plain_value (value.Inj l v) ≡ false
plain_variant l v = plain_at _ _ (value.outs-Inj l v)

-- the shapes of values and of types
abbrev form : Value-F Value → ℕ
form (Value-F.Bool b) = 0
form (Value-F.Int n) = 1
form (Value-F.Text t) = 2
form (Value-F.Rec fs) = 3
form (Value-F.Inj l v) = 4
form (Value-F.Set vs) = 5
form (Value-F.Bag vs) = 5
form (Value-F.List vs) = 5

abbrev form_at : Ground → ℕ
form_at bool = 0
form_at int = 1
form_at str = 2
form_at (rec_type r) = 3
form_at (var_type r) = 4
form_at (coll k t) = 5
form_at (arrow a b) = 6

bool_form : (x : Value-F Value) → IsSome (bool_layer x) → form x ≡ 0
bool_form (Value-F.Bool b) h = refl
bool_form x h = cc

int_form : (x : Value-F Value) → IsSome (int_layer x) → form x ≡ 1
int_form (Value-F.Int n) h = refl
int_form x h = cc

text_form : (x : Value-F Value) → IsSome (bytes_layer x) → form x ≡ 2
text_form (Value-F.Text t) h = refl
text_form x h = cc

form_is : (t : Ground) (v : Value) → Has t v → form (out-Value v) ≡ form_at t
form_is bool v h = bool_form (out-Value v) h
form_is int v h = int_form (out-Value v) h
form_is str v h = text_form (out-Value v) h
form_is (rec_type r) v h = ap (λ w. form (out-Value w)) h.1 ∙ ap form (value.outs-Rec h.0)
form_is (var_type r) v h = ap (λ w. form (out-Value w)) h.2 ∙ ap form (value.outs-Inj h.0 h.1)
form_is (coll kind.Set t) v h = ap (λ w. form (out-Value w)) h.1 ∙ ap form (value.outs-Set h.0)
form_is (coll kind.Bag t) v h = ap (λ w. form (out-Value w)) h.1 ∙ ap form (value.outs-Bag h.0)
form_is (coll kind.List t) v h = ap (λ w. form (out-Value w)) h.1 ∙ ap form (value.outs-List h.0)
form_is (arrow a b) v h = absurd h

same_form : (t u : Ground) (v : Value) → Has t v → Has u v → form_at t ≡ form_at u
same_form t u v h g = sym (form_is t v h) ∙ form_is u v g

same_items : (k j : Kind) (vs ws : List Value) → collection k vs ≡ collection j ws → (k ≡ j) × (vs ≡ ws)
same_items k j vs ws e =
    let f : Some (record { kind = k; items = vs }) ≡ Some (record { kind = j; items = ws }) = sym (collection_is k vs) ∙ ap as_collection e ∙ collection_is j ws in
    let g = same_Some (record { kind = k; items = vs }) (record { kind = j; items = ws }) f in
    (ap (λ c. c.kind) g, ap (λ c. c.items) g)

abbrev fields_in : Value-F Value → List (Name × Value)
fields_in (Value-F.Rec fs) = fs
fields_in x = []

same_fields : (fs gs : List (Name × Value)) → value.Rec fs ≡ value.Rec gs → fs ≡ gs
same_fields fs gs e = ap fields_in (sym (value.outs-Rec fs) ∙ ap out-Value e ∙ value.outs-Rec gs)

cons_same : {A : Type 0} (x y : A) (xs ys : List A) → x ∷ xs ≡ y ∷ ys → (x ≡ y) × (xs ≡ ys)
cons_same x y xs ys e = (cc, cc)

row_is : (l m : Name) (t u : Ground) (r q : Row) → l ≡ m → t ≡ u → r ≡ q → row l t r ≡ row m u q
row_is l m t u r q e f g = ap (λ x. row x t r) e ∙ ap₂ (row m) f g

items_have : (k j : Kind) (u : Ground) (v : Value) (vs ws : List Value) → v ≡ collection k vs → v ≡ collection j ws → AllByRecursion (Has u) ws → AllByRecursion (Has u) vs
items_have k j u v vs ws e f g = subst (AllByRecursion (Has u)) (sym ((same_items k j vs ws (sym e ∙ f)).1)) g

items_plain : (k : Kind) (v : Value) (vs : List Value) → v ≡ collection k vs → plain_value v ≡ true → some_plain (map plain_value vs) ≡ true
items_plain k v vs e p = sym (plain_items k vs) ∙ ap plain_value (sym e) ∙ p

first_item : (t u : Ground) (vs : List Value) → AllByRecursion (Has t) vs → AllByRecursion (Has u) vs → some_plain (map plain_value vs) ≡ true
    → ((v : Value) → Has t v → Has u v → plain_value v ≡ true → t ≡ u) → t ≡ u
first_item t u [] h g p one = absurd cc
first_item t u (v ∷ vs) h g p one = one v h.0 g.0 ((both_true (plain_value v) (all_plain (map plain_value vs)) p).0)

-- a value that is plain has one type
mutual
  pub value_type : (t u : Ground) (v : Value) → Has t v → Has u v → plain_value v ≡ true → t ≡ u
  value_type bool bool v h g p = refl
  value_type bool u v h g p = absurd (let e = same_form bool u v h g in cc)
  value_type int int v h g p = refl
  value_type int u v h g p = absurd (let e = same_form int u v h g in cc)
  value_type str str v h g p = refl
  value_type str u v h g p = absurd (let e = same_form str u v h g in cc)
  value_type (rec_type r) (rec_type q) v h g p =
      let e : h.0 ≡ g.0 = same_fields h.0 g.0 (sym h.1 ∙ g.1) in
      ap rec_type (fields_type r q h.0 h.2 (subst (HasFields q) (sym e) g.2) (sym (plain_fields h.0) ∙ ap plain_value (sym h.1) ∙ p))
  value_type (rec_type r) u v h g p = absurd (let e = same_form (rec_type r) u v h g in cc)
  value_type (var_type r) u v h g p = absurd (let e = sym (plain_variant h.0 h.1) ∙ ap plain_value (sym h.2) ∙ p in cc)
  value_type (coll k t) (coll j u) v h g p =
      ap₂ coll ((same_items k j h.0 g.0 (sym h.1 ∙ g.1)).0)
      (first_item t u h.0 h.2 (items_have k j u v h.0 g.0 h.1 g.1 g.2) (items_plain k v h.0 h.1 p) (λ w i l q. value_type t u w i l q))
  value_type (coll k t) u v h g p = absurd (let e = same_form (coll k t) u v h g in cc)
  value_type (arrow a b) u v h g p = absurd h

  fields_type : (r q : Row) (fs : List (Name × Value)) → HasFields r fs → HasFields q fs → fields_plain (map (λ f. (f.0, plain_value f.1)) fs) ≡ true → r ≡ q
  fields_type no_row no_row fs h g p = refl
  fields_type no_row (row l t q) fs h g p = absurd (let e = sym h ∙ g.2 in cc)
  fields_type (row l t r) no_row fs h g p = absurd (let e = sym g ∙ h.2 in cc)
  fields_type (row l t r) (row m u q) fs h g p =
      let x : Name × Value = (l, h.0) in
      let y : Name × Value = (m, g.0) in
      let e = cons_same x y h.1 g.1 (sym h.2 ∙ g.2) in
      let labels : l ≡ m = ap (λ f. f.0) e.0 in
      let values : h.0 ≡ g.0 = ap (λ f. f.1) e.0 in
      let others : h.1 ≡ g.1 = e.1 in
      let b = both_true (plain_value h.0) (fields_plain (map (λ f. (f.0, plain_value f.1)) h.1)) (ap (λ x. fields_plain (map (λ f. (f.0, plain_value f.1)) x)) (sym h.2) ∙ p) in
      row_is l m t u r q labels (value_type t u h.0 h.3 (subst (Has u) (sym values) g.3) b.0) (fields_type r q h.1 h.4 (subst (HasFields q) (sym others) g.4) b.1)

-- ---- primitives

-- a row without some labels is one
without_one : (test : Name → Bool) (r q p : Row) → IsWithout test r q → IsWithout test r p → q ≡ p
without_one test r q p h g = rows.one_row q p h.0 g.0 (λ l. h.1 l ∙ sym (g.1 l))

-- what stands in the row of two that share no label stands in one of these
abbrev first_of : Option Ground → Option Ground → Option Ground
first_of (Some t) y = Some t
first_of None y = y

both_at : (x y z : Option Ground) → x ≡ cond (is_some y) None z → y ≡ cond (is_some x) None z → z ≡ first_of x y
both_at (Some t) (Some u) z e f = absurd cc
both_at (Some t) None z e f = sym e
both_at None y z e f = sym f

both_one : (r s u v : Row) → IsBoth r s u → IsBoth r s v → u ≡ v
both_one r s u v b c = rows.one_row u v b.0 c.0
    (λ l. both_at (at l r) (at l s) (at l u) (b.1.1 l) (b.2.1 l) ∙ sym (both_at (at l r) (at l s) (at l v) (c.1.1 l) (c.2.1 l)))

shape_type : (s : Shape) (ts us : List Ground) (t u : Ground) → ts ≡ us → ShapeTypes s ts t → ShapeTypes s us u → t ≡ u
shape_type shape.Compare ts us t u e h g = h.2 ∙ sym g.2
shape_type shape.IntOp ts us t u e h g = h.1 ∙ sym g.1
shape_type shape.IntFn ts us t u e h g = h.1 ∙ sym g.1
shape_type shape.BoolFn ts us t u e h g = h.1 ∙ sym g.1
shape_type shape.TextJoin ts us t u e h g = h.1 ∙ sym g.1
shape_type shape.CollTest ts us t u e h g = h.3 ∙ sym g.3
shape_type shape.CollCount ts us t u e h g = h.3 ∙ sym g.3
shape_type shape.CollSum ts us t u e h g = h.2 ∙ sym g.2
shape_type shape.Member ts us t u e h g = h.3 ∙ sym g.3
shape_type shape.CollSame ts us t u e h g = let f = sym h.2 ∙ e ∙ g.2 in let same : coll h.0 h.1 ≡ coll g.0 g.1 = cc in h.3 ∙ same ∙ sym g.3
shape_type shape.Flatten ts us t u e h g = let f = sym h.2 ∙ e ∙ g.2 in let same : coll h.0 h.1 ≡ coll g.0 g.1 = cc in h.3 ∙ same ∙ sym g.3
shape_type shape.ToSet ts us t u e h g = let f = sym h.2 ∙ e ∙ g.2 in let same : h.1 ≡ g.1 = cc in h.3 ∙ ap (coll kind.Set) same ∙ sym g.3
shape_type shape.ToBag ts us t u e h g = let f = sym h.2 ∙ e ∙ g.2 in let same : h.1 ≡ g.1 = cc in h.3 ∙ ap (coll kind.Bag) same ∙ sym g.3
shape_type shape.ToList ts us t u e h g = let f = sym h.2 ∙ e ∙ g.2 in let same : h.1 ≡ g.1 = cc in h.3 ∙ ap (coll kind.List) same ∙ sym g.3
shape_type shape.TextLen ts us t u e h g = h.1 ∙ sym g.1
shape_type shape.TextTest ts us t u e h g = h.1 ∙ sym g.1
shape_type shape.TextInts ts us t u e h g = h.1 ∙ sym g.1
shape_type shape.IntText ts us t u e h g = h.1 ∙ sym g.1
shape_type shape.Extend ts us t u e h g =
    let f = sym h.3 ∙ e ∙ g.3 in
    let first : h.0 ≡ g.0 = cc in
    let second : h.1 ≡ g.1 = cc in
    let both : IsBoth g.0 g.1 h.2 = subst (λ x. IsBoth x g.1 h.2) first (subst (λ x. IsBoth h.0 x h.2) second h.5) in
    h.4 ∙ ap rec_type (both_one g.0 g.1 h.2 g.2 both g.5) ∙ sym g.4
shape_type shape.Rest ts us t u e h g =
    let f = sym h.3 ∙ e ∙ g.3 in
    let first : h.0 ≡ g.0 = cc in
    let second : h.1 ≡ g.1 = cc in
    let others : IsWithout (stands_in g.1) g.0 h.2 =
    subst (λ x. IsWithout (stands_in g.1) x h.2) first (subst (λ x. IsWithout (stands_in x) h.0 h.2) second h.6) in
    h.4 ∙ ap rec_type (without_one (stands_in g.1) g.0 h.2 g.2 others g.6) ∙ sym g.4
shape_type shape.Take ts us t u e h g = let f = sym h.2 ∙ e ∙ g.2 in let same : coll h.0 h.1 ≡ coll g.0 g.1 = cc in h.3 ∙ same ∙ sym g.3

prim_type : (c : ℕ) (ts us : List Ground) (t u : Ground) → ts ≡ us → PrimTypes c ts t → PrimTypes c us u → t ≡ u
unfolding PrimTypes
prim_type c ts us t u e = go (row_at c)
  where
    go : (o : Option Primitive) → RowTypes o ts t → RowTypes o us u → t ≡ u
    go (Some p) h g = shape_type p.entry.shape ts us t u e h g
    go None h g = absurd h

-- ---- terms

-- a variant type has a label, and a case a branch for it
no_arm_left : (r : Row) → (r ≡ no_row → ⊥) → Covers r no_arms → ⊥
no_arm_left no_row n c = n refl
no_arm_left (row l t r) n c = c l (rw (same_label l) refl)

module _ (S : SourceTypes) where
  mutual
    pub one_type : (t : Tree) (G : List Ground) (r q : Ground) → plain_in t ≡ true → CoreTypes S G t r → CoreTypes S G t q → r ≡ q
    one_type (Var x) G r q p h g = let e = sym h.0 ∙ g.0 in cc
    one_type (Const v) G r q p h g = value_type r q v h.1.0 g.1.0 p
    one_type (Source i) G r q p h g = let e = sym h.0 ∙ g.0 in cc
    one_type (Rec ps) G r q p h g = h.1 ∙ ap rec_type (one_row ps G h.0 g.0 p h.3 g.3) ∙ sym g.1
    one_type (Proj l a) G r q p h g =
        let e = one_type a G (rec_type h.0) (rec_type g.0) p h.1 g.1 in
        let same : h.0 ≡ g.0 = cc in
        let f = sym h.2 ∙ ap (at l) same ∙ g.2 in cc
    one_type (Inj l a) G r q p h g = absurd cc
    one_type (Case a no_arms) G r q p h g = absurd (no_arm_left h.0 (types_proper S a G (var_type h.0) h.1).0 h.2)
    one_type (Case a (rest c)) G r q p h g = one_type c G r q ((both_true (plain_in a) (plain_in c) p).1) h.3 g.3
    one_type (Case a (arm l b bs)) G r q p h g =
        let d = both_true (plain_in a) (plain_in b && plain_arms bs) p in
        let e = one_type a G (var_type h.0) (var_type g.0) d.0 h.1 g.1 in
        let rows : h.0 ≡ g.0 = cc in
        let f = sym h.3.1 ∙ ap (at l) rows ∙ g.3.1 in
        let same : h.3.0 ≡ g.3.0 = cc in
        one_type b (h.3.0 ∷ G) r q ((both_true (plain_in b) (plain_arms bs) d.1).0) h.3.2 (subst (λ x. CoreTypes S (x ∷ G) b q) (sym same) g.3.2)
    one_type (Make k no_trees) G r q p h g = absurd cc
    one_type (Make k (trees t ts)) G r q p h g = h.1 ∙ ap (coll k) (one_type t G h.0 g.0 ((both_true (plain_in t) (plain_trees ts) p).0) h.3.0 g.3.0) ∙ sym g.1
    one_type (Union a b) G r q p h g = one_type a G r q ((both_true (plain_in a) (plain_in b) p).0) h.3 g.3
    one_type (Ext k b s) G r q p h g =
        let c = both_true (plain_in b) (plain_in s) p in
        let e = one_type s G (coll h.1 h.2) (coll g.1 g.2) c.1 h.4 g.4 in
        let same : h.2 ≡ g.2 = cc in
        one_type b (h.2 ∷ G) r q c.0 h.5 (subst (λ w. CoreTypes S (w ∷ G) b q) (sym same) g.5)
    one_type (If a b c) G r q p h g = one_type b G r q ((both_true (plain_in b) (plain_in c) ((both_true (plain_in a) (plain_in b && plain_in c) p).1)).0) h.1 g.1
    one_type (Let a b) G r q p h g =
        let c = both_true (plain_in a) (plain_in b) p in
        let same = one_type a G h.0 g.0 c.0 h.1 g.1 in
        one_type b (h.0 ∷ G) r q c.1 h.2 (subst (λ w. CoreTypes S (w ∷ G) b q) (sym same) g.2)
    one_type (Prim c ts) G r q p h g = prim_type c h.0 g.0 r q (one_types ts G h.0 g.0 p h.1 g.1) h.2 g.2

    one_types : (ts : Trees) (G : List Ground) (rs qs : List Ground) → plain_trees ts ≡ true → AllTypes S G ts rs → AllTypes S G ts qs → rs ≡ qs
    one_types no_trees G rs qs p h g = h ∙ sym g
    one_types (trees t ts) G rs qs p h g =
        let c = both_true (plain_in t) (plain_trees ts) p in
        h.2 ∙ ap₂ ◌∷◌ (one_type t G h.0 g.0 c.0 h.3 g.3) (one_types ts G h.1 g.1 c.1 h.4 g.4) ∙ sym g.2

    one_row : (ps : Parts) (G : List Ground) (r q : Row) → plain_parts ps ≡ true → PartTypes S G ps r → PartTypes S G ps q → r ≡ q
    one_row no_parts G r q p h g = h ∙ sym g
    one_row (parts l t ps) G r q p h g =
        let c = both_true (plain_in t) (plain_parts ps) p in
        h.2 ∙ ap₂ (row l) (one_type t G h.0 g.0 c.0 h.3 g.3) (one_row ps G h.1 g.1 c.1 h.4 g.4) ∙ sym g.2
