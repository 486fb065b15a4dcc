-- A value has a type of the program exactly where it has the ground type that this stands for.
use Rattle.std.proofs.Common.{◌≡◌, Bool, true, false, ◌&&◌, List, [], ◌∷◌, map, Some, IsSome, cond, nat_eq, refl, sym, ap, subst, ◌∙◌}
use Rattle.std.specs.Cmp.Lexicographic.{pointwise, same_text}
use Rattle.std.specs.List.{AllByRecursion, list_all}
use Rattle.std.specs.Option.{option_map_or}
use Rattle.std.proofs.lemmas.Cmp.{nat_list_eq_equiv}
use Rattle.kl_base.specs.Fields.{field}
use Rattle.kl_value.specs.Views.{bool_layer, int_layer, bytes_layer, collection}
use Rattle.kl_value.specs.declared.Kind.{Kind}
use Rattle.kl_value.specs.declared.Kind.TheVariants as kind
use Rattle.kl_value.specs.declared.Value.{Value, Value-F, out-Value, roll-Value, roll-out-Value}
use Rattle.kl_value.specs.declared.Value.TheVariants as value
use Rattle.kl_type.specs.Ground.{rec, var, coll, row_by, ground_of}
use Rattle.kl_type.specs.Has.{fields_have, has_layer, has_type}
use Rattle.kl_type.specs.declared.ground.Ty.{Ty, Ty-F, roll-Ty, map-Ty, ind-Ty}
use Rattle.kl_type.specs.declared.ground.Ty.TheVariants as ty
use Rattle.kl_type.proofs.GroundLemmas.{ground-Bool, ground-Int, ground-Str, ground-Rec, ground-Var, ground-Coll}
use Rattle.kl_type.proofs.HasLemmas.{has-out, has-Rec, has-Inj, has-Set, has-Bag, has-List}
use Rattle.kl_outcome.specs.Outcome.{Name}
use Rattle.kl_outcome.specs.Typed.{Has, HasFields, HasAt}

-- what is to be shown of a type, and of each type of some fields
abbrev AsGround : Ty → Type 0
AsGround t = (v : Value) → (has_type v t ≡ true → Has (ground_of t) v) × (Has (ground_of t) v → has_type v t ≡ true)

abbrev Such : Type 0
Such = (t : Ty) × AsGround t

abbrev FieldsAsGround : List (Name × Ty) → Type 0
FieldsAsGround = AllByRecursion (λ f. AsGround f.1)

pub both_true : (a b : Bool) → (a && b) ≡ true → (a ≡ true) × (b ≡ true)
both_true true b h = (refl, h)
both_true false b h = cc

-- ---- truth values, integers and texts

bool_is : (y : Value-F Value) → (has_layer has_type y ty.Bool ≡ true → IsSome (bool_layer y)) × (IsSome (bool_layer y) → has_layer has_type y ty.Bool ≡ true)
bool_is (Value-F.Bool b) = (λ h. refl, λ h. rw ty.outs-Bool refl)
bool_is y = (λ h. let e = rw ty.outs-Bool at h in cc, λ h. cc)

int_is : (y : Value-F Value) → (has_layer has_type y ty.Int ≡ true → IsSome (int_layer y)) × (IsSome (int_layer y) → has_layer has_type y ty.Int ≡ true)
int_is (Value-F.Int n) = (λ h. refl, λ h. rw ty.outs-Int refl)
int_is y = (λ h. let e = rw ty.outs-Int at h in cc, λ h. cc)

text_is : (y : Value-F Value) → (has_layer has_type y ty.Str ≡ true → IsSome (bytes_layer y)) × (IsSome (bytes_layer y) → has_layer has_type y ty.Str ≡ true)
text_is (Value-F.Text s) = (λ h. refl, λ h. rw ty.outs-Str refl)
text_is y = (λ h. let e = rw ty.outs-Str at h in cc, λ h. cc)

-- ---- records

fields_told : (fs : List (Name × Value)) (ts : List (Name × Ty)) → FieldsAsGround ts → fields_have has_type fs ts ≡ true → HasFields (row_by ground_of ts) fs
fields_told [] [] all h = refl
fields_told [] (t ∷ ts) all h = cc
fields_told (f ∷ fs) [] all h = cc
fields_told (f ∷ fs) (t ∷ ts) all h =
    let a = both_true (pointwise nat_eq f.0 t.0 && has_type f.1 t.1) (fields_have has_type fs ts) h in
    let b = both_true (pointwise nat_eq f.0 t.0) (has_type f.1 t.1) a.0 in
    let same : f.0 ≡ t.0 = same_text f.0 t.0 (sym b.0) in
    (f.1, fs, ap (λ l. (l, f.1) ∷ fs) same, (all.0 f.1).0 b.1, fields_told fs ts all.1 a.1)

fields_back : (ts : List (Name × Ty)) (fs : List (Name × Value)) → FieldsAsGround ts → HasFields (row_by ground_of ts) fs → fields_have has_type fs ts ≡ true
fields_back [] fs all h = rw h refl
fields_back (t ∷ ts) fs all h = rw (h.2, nat_list_eq_equiv.refl t.0, (all.0 h.0).1 h.3, fields_back ts h.1 all.1 h.4) refl

rec_layer : (v : Value) (y : Value-F Value) (ts : List (Name × Ty)) → FieldsAsGround ts → v ≡ roll-Value y → has_layer has_type y (ty.Rec ts) ≡ true → Has (rec (row_by ground_of ts)) v
rec_layer v (Value-F.Rec fs) ts all e h = (fs, e ∙ value.rolls-Rec fs, fields_told fs ts all (rw (ty.outs-Rec ts) at h))
rec_layer v y ts all e h = let g = rw (ty.outs-Rec ts) at h in cc

-- ---- variants

at_told : (b : Bool) (l : Name) (v : Value) (t : Ty) (ts : List (Name × Ty)) → AsGround t → (option_map_or (has_type v) (field l ts) false ≡ true → HasAt (row_by ground_of ts) l v)
    → option_map_or (has_type v) (cond b (Some t) (field l ts)) false ≡ true → cond b (Has (ground_of t) v) (HasAt (row_by ground_of ts) l v)
at_told true l v t ts here next h = (here v).0 h
at_told false l v t ts here next h = next h

field_told : (l : Name) (v : Value) (ts : List (Name × Ty)) → FieldsAsGround ts → option_map_or (has_type v) (field l ts) false ≡ true → HasAt (row_by ground_of ts) l v
field_told l v [] all h = cc
field_told l v (t ∷ ts) all h = at_told (pointwise nat_eq l t.0) l v t.1 ts all.0 (field_told l v ts all.1) h

at_back : (b : Bool) (l : Name) (v : Value) (t : Ty) (ts : List (Name × Ty)) → AsGround t → (HasAt (row_by ground_of ts) l v → option_map_or (has_type v) (field l ts) false ≡ true)
    → cond b (Has (ground_of t) v) (HasAt (row_by ground_of ts) l v) → option_map_or (has_type v) (cond b (Some t) (field l ts)) false ≡ true
at_back true l v t ts here next h = (here v).1 h
at_back false l v t ts here next h = next h

field_back : (l : Name) (v : Value) (ts : List (Name × Ty)) → FieldsAsGround ts → HasAt (row_by ground_of ts) l v → option_map_or (has_type v) (field l ts) false ≡ true
field_back l v [] all h = absurd h
field_back l v (t ∷ ts) all h = at_back (pointwise nat_eq l t.0) l v t.1 ts all.0 (field_back l v ts all.1) h

var_layer : (v : Value) (y : Value-F Value) (ts : List (Name × Ty)) → FieldsAsGround ts → v ≡ roll-Value y → has_layer has_type y (ty.Var ts) ≡ true → Has (var (row_by ground_of ts)) v
var_layer v (Value-F.Inj l w) ts all e h = (l, w, e ∙ value.rolls-Inj l w, field_told l w ts all (rw (ty.outs-Var ts) at h))
var_layer v y ts all e h = let g = rw (ty.outs-Var ts) at h in cc

-- ---- collections

items_told : (t : Ty) (vs : List Value) → AsGround t → list_all (λ v. has_type v t) vs ≡ true → AllByRecursion (Has (ground_of t)) vs
items_told t [] here h = tt
items_told t (v ∷ vs) here h = let a = both_true (has_type v t) (list_all (λ w. has_type w t) vs) h in ((here v).0 a.0, items_told t vs here a.1)

items_back : (t : Ty) (vs : List Value) → AsGround t → AllByRecursion (Has (ground_of t)) vs → list_all (λ v. has_type v t) vs ≡ true
items_back t [] here h = refl
items_back t (v ∷ vs) here h = rw ((here v).1 h.0, items_back t vs here h.1) refl

coll_layer : (v : Value) (y : Value-F Value) (k : Kind) (t : Ty) → AsGround t → v ≡ roll-Value y → has_layer has_type y (ty.Coll k t) ≡ true → Has (coll k (ground_of t)) v
coll_layer v (Value-F.Set vs) kind.Set t here e h = (vs, e ∙ value.rolls-Set vs, items_told t vs here (rw (ty.outs-Coll kind.Set t) at h))
coll_layer v (Value-F.Bag vs) kind.Bag t here e h = (vs, e ∙ value.rolls-Bag vs, items_told t vs here (rw (ty.outs-Coll kind.Bag t) at h))
coll_layer v (Value-F.List vs) kind.List t here e h = (vs, e ∙ value.rolls-List vs, items_told t vs here (rw (ty.outs-Coll kind.List t) at h))
coll_layer v y k t here e h = let g = rw (ty.outs-Coll k t) at h in cc

coll_back : (k : Kind) (t : Ty) (vs : List Value) → AsGround t → AllByRecursion (Has (ground_of t)) vs → has_type (collection k vs) (ty.Coll k t) ≡ true
coll_back kind.Set t vs here h = has-Set vs (ty.Coll kind.Set t) ∙ (rw (ty.outs-Coll kind.Set t) (items_back t vs here h))
coll_back kind.Bag t vs here h = has-Bag vs (ty.Coll kind.Bag t) ∙ (rw (ty.outs-Coll kind.Bag t) (items_back t vs here h))
coll_back kind.List t vs here h = has-List vs (ty.Coll kind.List t) ∙ (rw (ty.outs-Coll kind.List t) (items_back t vs here h))

-- ---- a type, where each type in it is so

bool_as : AsGround ty.Bool
bool_as v =
    let is = bool_is (out-Value v) in
    subst (λ g. (has_type v ty.Bool ≡ true → Has g v) × (Has g v → has_type v ty.Bool ≡ true)) (sym ground-Bool)
    (λ h. is.0 (sym (has-out v ty.Bool) ∙ h), λ h. has-out v ty.Bool ∙ is.1 h)

int_as : AsGround ty.Int
int_as v =
    let is = int_is (out-Value v) in
    subst (λ g. (has_type v ty.Int ≡ true → Has g v) × (Has g v → has_type v ty.Int ≡ true)) (sym ground-Int)
    (λ h. is.0 (sym (has-out v ty.Int) ∙ h), λ h. has-out v ty.Int ∙ is.1 h)

text_as : AsGround ty.Str
text_as v =
    let is = text_is (out-Value v) in
    subst (λ g. (has_type v ty.Str ≡ true → Has g v) × (Has g v → has_type v ty.Str ≡ true)) (sym ground-Str)
    (λ h. is.0 (sym (has-out v ty.Str) ∙ h), λ h. has-out v ty.Str ∙ is.1 h)

rec_as : (ts : List (Name × Ty)) → FieldsAsGround ts → AsGround (ty.Rec ts)
rec_as ts all v =
    subst (λ g. (has_type v (ty.Rec ts) ≡ true → Has g v) × (Has g v → has_type v (ty.Rec ts) ≡ true)) (sym (ground-Rec ts)) (
      λ h. rec_layer v (out-Value v) ts all (sym (roll-out-Value v)) (sym (has-out v (ty.Rec ts)) ∙ h),
      λ h. ap (λ w. has_type w (ty.Rec ts)) h.1 ∙ has-Rec h.0 (ty.Rec ts) ∙ (rw (ty.outs-Rec ts) (fields_back ts h.0 all h.2)),
    )

var_as : (ts : List (Name × Ty)) → FieldsAsGround ts → AsGround (ty.Var ts)
var_as ts all v =
    subst (λ g. (has_type v (ty.Var ts) ≡ true → Has g v) × (Has g v → has_type v (ty.Var ts) ≡ true)) (sym (ground-Var ts)) (
      λ h. var_layer v (out-Value v) ts all (sym (roll-out-Value v)) (sym (has-out v (ty.Var ts)) ∙ h),
      λ h. ap (λ w. has_type w (ty.Var ts)) h.2 ∙ has-Inj h.0 h.1 (ty.Var ts) ∙ (rw (ty.outs-Var ts) (field_back h.0 h.1 ts all h.3)),
    )

coll_as : (k : Kind) (t : Ty) → AsGround t → AsGround (ty.Coll k t)
coll_as k t here v =
    subst (λ g. (has_type v (ty.Coll k t) ≡ true → Has g v) × (Has g v → has_type v (ty.Coll k t) ≡ true)) (sym (ground-Coll k t)) (
      λ h. coll_layer v (out-Value v) k t here (sym (roll-out-Value v)) (sym (has-out v (ty.Coll k t)) ∙ h),
      λ h. ap (λ w. has_type w (ty.Coll k t)) h.1 ∙ coll_back k t h.0 here h.2,
    )

each_field : (es : List (Name × Such)) → FieldsAsGround (map (λ e. (e.0, e.1.0)) es)
each_field [] = tt
each_field (e ∷ es) = (e.1.1, each_field es)

made_as : (y : Ty-F Such) → AsGround (roll-Ty (map-Ty Such Ty (λ e. e.0) y))
made_as Ty-F.Bool = subst AsGround (sym ty.rolls-Bool) bool_as
made_as Ty-F.Int = subst AsGround (sym ty.rolls-Int) int_as
made_as Ty-F.Str = subst AsGround (sym ty.rolls-Str) text_as
made_as (Ty-F.Rec es) = subst AsGround (sym (ty.rolls-Rec (map (λ e. (e.0, e.1.0)) es))) (rec_as (map (λ e. (e.0, e.1.0)) es) (each_field es))
made_as (Ty-F.Var es) = subst AsGround (sym (ty.rolls-Var (map (λ e. (e.0, e.1.0)) es))) (var_as (map (λ e. (e.0, e.1.0)) es) (each_field es))
made_as (Ty-F.Coll k e) = subst AsGround (sym (ty.rolls-Coll k e.0)) (coll_as k e.0 e.1)

as_ground : (t : Ty) → AsGround t
as_ground = ind-Ty AsGround (λ x y is. subst (λ z. AsGround (roll-Ty z)) is (made_as y))

pub told : (v : Value) (t : Ty) → has_type v t ≡ true → Has (ground_of t) v
told v t = (as_ground t v).0

pub tells : (v : Value) (t : Ty) → Has (ground_of t) v → has_type v t ≡ true
tells v t = (as_ground t v).1
