-- Which types have a shape.
use Rattle.std.specs.Prelude.{ℕ, Bool, true, false, ◌&&◌, List, map}
use Rattle.std.specs.List.{list_all}
use Rattle.std.specs.Option.{option_map_or}
use Rattle.kl_base.specs.Fields.{field, rises}
use Rattle.kl_type.specs.Has.{fields_have}
use Rattle.kl_type.specs.Parts.{is_bool, is_int, is_string, record_of, variant_of, items_of}
use Rattle.kl_type.specs.declared.ground.Ty.{Ty}
use Rattle.kl_type.specs.declared.ground.Ty.TheVariants as ty
use Rattle.kl_shape.specs.declared.shape.Shape.{Shape, Shape-F, fold-Shape}

-- a label has a type there, of which this is true
abbrev pub has_at : (Ty → Bool) → List ℕ → List (List ℕ × Ty) → Bool
has_at p l ts = option_map_or p (field l ts) false

-- one level, where h says whether a type has what stands inside
abbrev pub fits_layer : {X : Type 0} → (X → Ty → Bool) → Shape-F X → Ty → Bool
fits_layer h Shape-F.Unseen t = true
fits_layer h Shape-F.Bool t = is_bool t
fits_layer h Shape-F.Int t = is_int t
fits_layer h Shape-F.Str t = is_string t
fits_layer h (Shape-F.Rec fs) t = option_map_or (λ ts. fields_have h fs ts) (record_of t) false
fits_layer h (Shape-F.Var fs) t = option_map_or (λ ts. list_all (λ f. has_at (h f.1) f.0 ts) fs) (variant_of t) false
fits_layer h (Shape-F.Coll k s) t = option_map_or (h s) (items_of k t) false

-- The type has the shape: any type stands in a gap, and a variant type may have more labels.
unfoldable pub fits : Shape → Ty → Bool
fits = fold-Shape (Ty → Bool) (fits_layer (λ f t. f t))

abbrev pub filled_layer : Shape-F Ty → Ty
filled_layer Shape-F.Unseen = ty.Str
filled_layer Shape-F.Bool = ty.Bool
filled_layer Shape-F.Int = ty.Int
filled_layer Shape-F.Str = ty.Str
filled_layer (Shape-F.Rec fs) = ty.Rec fs
filled_layer (Shape-F.Var fs) = ty.Var fs
filled_layer (Shape-F.Coll k t) = ty.Coll k t

-- the type with `string` in each gap, and no more labels
unfoldable pub filled : Shape → Ty
filled = fold-Shape Ty filled_layer

abbrev pub filled_field : List ℕ × Shape → List ℕ × Ty
filled_field f = (f.0, filled f.1)

abbrev pub sound_layer : Shape-F Bool → Bool
sound_layer (Shape-F.Rec fs) = list_all (λ f. f.1) fs
sound_layer (Shape-F.Var fs) = rises (map (λ f. f.0) fs) && list_all (λ f. f.1) fs
sound_layer (Shape-F.Coll k s) = s
sound_layer _ = true

-- the labels of each variant rise
unfoldable pub sound : Shape → Bool
sound = fold-Shape Bool sound_layer
