-- The equations of `has_type`.
use Rattle.std.proofs.Common.{◌≡◌, ℕ, suc, length, ℤ, Bool, true, false, ◌&&◌, List, [], ◌∷◌, map, refl, ap, ◌∙◌}
use Rattle.std.specs.List.{list_all}
use Rattle.std.specs.Option.{option_map_or}
use Rattle.std.specs.Cmp.Lexicographic.{pointwise}
use Rattle.std.specs.Prelude.{nat_eq}
use Rattle.kl_base.specs.Fields.{field}
use Rattle.kl_value.specs.declared.Kind.TheVariants as kind
use Rattle.kl_value.specs.declared.Value.{Value, Value-F, out-Value, map-Value, fold_out-Value}
use Rattle.kl_value.specs.declared.Value.TheVariants as value
use Rattle.kl_type.specs.Has.{fields_have, has_layer, has_type}
use Rattle.kl_type.specs.Parts.{is_bool, is_int, is_string, record_of, variant_of, items_of}
use Rattle.kl_type.specs.declared.ground.Ty.{Ty}

module _ {X Y : Type 0} (g : X → Y) (h : Y → Ty → Bool) where
  fields_have-map : (fs : List (List ℕ × X)) (ts : List (List ℕ × Ty)) → fields_have h (map (λ f. (f.0, g f.1)) fs) ts ≡ fields_have (λ x t. h (g x) t) fs ts
  fields_have-map [] [] = refl
  fields_have-map [] (t ∷ ts) = refl
  fields_have-map (f ∷ fs) [] = refl
  fields_have-map (f ∷ fs) (t ∷ ts) = ap (λ b. (pointwise nat_eq f.0 t.0 && h (g f.1) t.1) && b) (fields_have-map fs ts)

  list_all-map : (p : Y → Bool) (xs : List X) → list_all p (map g xs) ≡ list_all (λ x. p (g x)) xs
  list_all-map p [] = refl
  list_all-map p (x ∷ xs) = ap (λ b. p (g x) && b) (list_all-map p xs)

  has_layer-map : (x : Value-F X) (t : Ty) → has_layer h (map-Value X Y g x) t ≡ has_layer (λ x t. h (g x) t) x t
  has_layer-map (Value-F.Rec fs) t = λ i. option_map_or (λ ts. fields_have-map fs ts i) (record_of t) false
  has_layer-map (Value-F.Set vs) t = λ i. option_map_or (λ u. list_all-map (λ v. h v u) vs i) (items_of kind.Set t) false
  has_layer-map (Value-F.Bag vs) t = λ i. option_map_or (λ u. list_all-map (λ v. h v u) vs i) (items_of kind.Bag t) false
  has_layer-map (Value-F.List vs) t = λ i. option_map_or (λ u. list_all-map (λ v. h v u) vs i) (items_of kind.List t) false
  has_layer-map x t = refl

pub has-out : (v : Value) (t : Ty) → has_type v t ≡ has_layer has_type (out-Value v) t
unfolding has_type
has-out v t = (λ i. fold_out-Value (Ty → Bool) (has_layer (λ f t. f t)) v i t) ∙ has_layer-map has_type (λ f t. f t) (out-Value v) t

at_layer : (v : Value) (x : Value-F Value) → out-Value v ≡ x → (t : Ty) → has_type v t ≡ has_layer has_type x t
at_layer v x e t = has-out v t ∙ ap (λ z. has_layer has_type z t) e

pub has-Bool : (b : Bool) (t : Ty) → has_type (value.Bool b) t ≡ is_bool t
has-Bool b = at_layer _ _ (value.outs-Bool b)

pub has-Int : (n : ℤ) (t : Ty) → has_type (value.Int n) t ≡ is_int t
has-Int n = at_layer _ _ (value.outs-Int n)

pub has-Text : (s : List ℕ) (t : Ty) → has_type (value.Text s) t ≡ is_string t
has-Text s = at_layer _ _ (value.outs-Text s)

pub has-Rec : (fs : List (List ℕ × Value)) (t : Ty) → has_type (value.Rec fs) t ≡ option_map_or (λ ts. fields_have has_type fs ts) (record_of t) false
has-Rec fs = at_layer _ _ (value.outs-Rec fs)

pub has-Inj : (l : List ℕ) (v : Value) (t : Ty) → has_type (value.Inj l v) t ≡ option_map_or (λ ts. option_map_or (has_type v) (field l ts) false) (variant_of t) false
has-Inj l v = at_layer _ _ (value.outs-Inj l v)

pub has-Set : (vs : List Value) (t : Ty) → has_type (value.Set vs) t ≡ option_map_or (λ u. list_all (λ v. has_type v u) vs) (items_of kind.Set t) false
has-Set vs = at_layer _ _ (value.outs-Set vs)

pub has-Bag : (vs : List Value) (t : Ty) → has_type (value.Bag vs) t ≡ option_map_or (λ u. list_all (λ v. has_type v u) vs) (items_of kind.Bag t) false
has-Bag vs = at_layer _ _ (value.outs-Bag vs)

pub has-List : (vs : List Value) (t : Ty) → has_type (value.List vs) t ≡ option_map_or (λ u. list_all (λ v. has_type v u) vs) (items_of kind.List t) false
has-List vs = at_layer _ _ (value.outs-List vs)

pub ruleset has_rules = (has-Bool, has-Int, has-Text, has-Rec, has-Inj, has-Set, has-Bag, has-List)

-- records of different lengths
pub fields_have-unlike : {X : Type 0} (h : X → Ty → Bool) (fs : List (List ℕ × X)) (ts : List (List ℕ × Ty)) → (length fs ≡ length ts → ⊥) → fields_have h fs ts ≡ false
fields_have-unlike h [] [] unlike = absurd (unlike refl)
fields_have-unlike h [] (t ∷ ts) unlike = refl
fields_have-unlike h (f ∷ fs) [] unlike = refl
fields_have-unlike h (f ∷ fs) (t ∷ ts) unlike =
    let rest = fields_have-unlike h fs ts (λ e. unlike (ap suc e)) in
    elim (pointwise nat_eq f.0 t.0 && h f.1 t.1) as (λ b. (b && fields_have h fs ts) ≡ false) [ true ↦ rest | false ↦ refl ]
