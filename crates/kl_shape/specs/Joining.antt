-- The shape of the types that have a shape and a value.
use Rattle.std.specs.Prelude.{◌≡◌, ℕ, Bool, true, false, ◌&&◌, List, map, Option, Some, None, ⊤}
use Rattle.std.specs.List.{list_all}
use Rattle.std.specs.Option.{option_map_or}
use Rattle.kl_base.specs.Fields.{rises}
use Rattle.kl_value.specs.declared.Kind.{Kind}
use Rattle.kl_value.specs.declared.Value.{Value}
use Rattle.kl_type.specs.Has.{fields_have, has_type}
use Rattle.kl_type.specs.Parts.{record_of, variant_of, items_of}
use Rattle.kl_type.specs.declared.ground.Ty.{Ty}
use Rattle.kl_shape.specs.Shapes.{fits, has_at, sound}
use Rattle.kl_shape.specs.declared.shape.Shape.{Shape}

-- the types of a shape are those of which this is true, or there is none and it is true of no type
abbrev pub IsShapeOf : (Ty → Bool) → Option Shape → Type 0
IsShapeOf p (Some s) = (t : Ty) → fits s t ≡ p t
IsShapeOf p None = (t : Ty) → p t ≡ false

-- the types that have a shape and a value
abbrev pub Joins : Shape → Value → Option Shape → Type 0
Joins s v joined = IsShapeOf (λ t. fits s t && has_type v t) joined

abbrev pub IsSoundIfSome : Option Shape → Type 0
IsSoundIfSome None = ⊤
IsSoundIfSome (Some s) = sound s ≡ true

pub record Answers (s : Shape) (v : Value) (joined : Option Shape) : Type 0 where
  pub joins : Joins s v joined
  pub is_sound : IsSoundIfSome joined

-- ---- for private functions alone

abbrev pub are_sound : List (List ℕ × Shape) → Bool
are_sound fs = list_all (λ f. sound f.1) fs

abbrev pub sound_variant : List (List ℕ × Shape) → Bool
sound_variant fs = rises (map (λ f. f.0) fs) && are_sound fs

pub record AnswersRecord (shapes : List (List ℕ × Shape)) (fields : List (List ℕ × Value)) (joined : Option Shape) : Type 0 where
  pub joins : IsShapeOf (λ t. option_map_or (λ ts. fields_have fits shapes ts && fields_have has_type fields ts) (record_of t) false) joined
  pub is_sound : IsSoundIfSome joined

pub record AnswersLabel (shapes : List (List ℕ × Shape)) (label : List ℕ) (inner : Value) (joined : Option Shape) : Type 0 where
  pub joins : IsShapeOf (λ t. option_map_or (λ ts. list_all (λ f. has_at (fits f.1) f.0 ts) shapes && has_at (has_type inner) label ts) (variant_of t) false) joined
  pub is_sound : IsSoundIfSome joined

pub record AnswersItems (kind : Kind) (item : Shape) (items : List Value) (joined : Option Shape) : Type 0 where
  pub joins : IsShapeOf (λ t. option_map_or (λ u. fits item u && list_all (λ v. has_type v u) items) (items_of kind t) false) joined
  pub is_sound : IsSoundIfSome joined
