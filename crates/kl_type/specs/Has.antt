-- Which values have a type.
use Rattle.std.specs.Prelude.{Bool, true, false, ◌&&◌, ℕ, List, [], ◌∷◌, nat_eq}
use Rattle.std.specs.List.{list_all}
use Rattle.std.specs.Option.{option_map_or}
use Rattle.std.specs.Cmp.Lexicographic.{pointwise}
use Rattle.kl_base.specs.Fields.{field}
use Rattle.kl_value.specs.declared.Kind.TheVariants as kind
use Rattle.kl_value.specs.declared.Value.{Value, Value-F, fold-Value}
use Rattle.kl_type.specs.Parts.{is_bool, is_int, is_string, record_of, variant_of, items_of}
use Rattle.kl_type.specs.declared.ground.Ty.{Ty}

-- the labels are the same, and each field has its type
abbrev pub fields_have : {X : Type 0} → (X → Ty → Bool) → List (List ℕ × X) → List (List ℕ × Ty) → Bool
fields_have h [] [] = true
fields_have h [] (t ∷ ts) = false
fields_have h (f ∷ fs) [] = false
fields_have h (f ∷ fs) (t ∷ ts) = (pointwise nat_eq f.0 t.0 && h f.1 t.1) && fields_have h fs ts

-- one level, where h says whether what stands inside has a type
abbrev pub has_layer : {X : Type 0} → (X → Ty → Bool) → Value-F X → Ty → Bool
has_layer h (Value-F.Bool b) t = is_bool t
has_layer h (Value-F.Int n) t = is_int t
has_layer h (Value-F.Text s) t = is_string t
has_layer h (Value-F.Rec fs) t = option_map_or (λ ts. fields_have h fs ts) (record_of t) false
has_layer h (Value-F.Inj l v) t = option_map_or (λ ts. option_map_or (h v) (field l ts) false) (variant_of t) false
has_layer h (Value-F.Set vs) t = option_map_or (λ u. list_all (λ v. h v u) vs) (items_of kind.Set t) false
has_layer h (Value-F.Bag vs) t = option_map_or (λ u. list_all (λ v. h v u) vs) (items_of kind.Bag t) false
has_layer h (Value-F.List vs) t = option_map_or (λ u. list_all (λ v. h v u) vs) (items_of kind.List t) false

unfoldable pub has_type : Value → Ty → Bool
has_type = fold-Value (Ty → Bool) (has_layer (λ f t. f t))
