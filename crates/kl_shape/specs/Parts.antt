-- What stands inside shapes.
use Rattle.std.specs.Prelude.{◌≡◌, ◌++◌, ℕ, take, drop, Bool, true, false, List, [], ◌∷◌, Option, Some, None, cond}
use Rattle.std.specs.declared.cmp.Ordering.{Ordering}
use Rattle.std.specs.declared.cmp.Ordering.TheVariants.{Less, Equal, Greater}
use Rattle.kl_base.specs.Fields.{bytes_cmp}
use Rattle.kl_value.specs.declared.Kind.{Kind}
use Rattle.kl_type.specs.Parts.{same_kind}
use Rattle.kl_shape.specs.declared.shape.Shape.{Shape, Shape-F, out-Shape}
use Rattle.kl_shape.specs.declared.shape.Shape.TheVariants as shape

abbrev pub bool_layer : Shape-F Shape → Bool
bool_layer Shape-F.Unseen = true
bool_layer Shape-F.Bool = true
bool_layer _ = false

abbrev pub int_layer : Shape-F Shape → Bool
int_layer Shape-F.Unseen = true
int_layer Shape-F.Int = true
int_layer _ = false

abbrev pub text_layer : Shape-F Shape → Bool
text_layer Shape-F.Unseen = true
text_layer Shape-F.Str = true
text_layer _ = false

-- a gap, or the type itself
abbrev pub may_be_bool : Shape → Bool
may_be_bool s = bool_layer (out-Shape s)

abbrev pub may_be_int : Shape → Bool
may_be_int s = int_layer (out-Shape s)

abbrev pub may_be_text : Shape → Bool
may_be_text s = text_layer (out-Shape s)

abbrev pub items_layer : Kind → Shape-F Shape → Option Shape
items_layer k Shape-F.Unseen = Some shape.Unseen
items_layer k (Shape-F.Coll j s) = cond (same_kind j k) (Some s) None
items_layer k _ = None

-- the shape of the items of a collection of a kind, where there may be one
abbrev pub items_under : Kind → Shape → Option Shape
items_under k s = items_layer k (out-Shape s)

-- what stands under a label that comes behind, at or before this one
abbrev pub under : Ordering → Shape → Shape → Shape
under Less here behind = behind
under Equal here behind = here
under Greater here behind = shape.Unseen

-- the shape under a label, among labels that rise; a gap where the label is none of them
abbrev pub shape_under : List ℕ → List (List ℕ × Shape) → Shape
shape_under l [] = shape.Unseen
shape_under l (f ∷ fs) = under (bytes_cmp f.0 l) f.1 (shape_under l fs)

abbrev pub put : Ordering → List ℕ × Shape → List ℕ × Shape → List (List ℕ × Shape) → List (List ℕ × Shape) → List (List ℕ × Shape)
put Less new here fs behind = here ∷ behind
put Equal new here fs behind = new ∷ fs
put Greater new here fs behind = new ∷ here ∷ fs

-- one label with its shape, in its place
abbrev pub with_label : List ℕ → Shape → List (List ℕ × Shape) → List (List ℕ × Shape)
with_label l s [] = (l, s) ∷ []
with_label l s (f ∷ fs) = put (bytes_cmp f.0 l) (l, s) f fs (with_label l s fs)

-- ---- for private functions alone

-- a label goes behind the first `front` labels, and before those from `rest` on
abbrev pub IsPlaceOf : List ℕ → List (List ℕ × Shape) → ℕ → ℕ → Type 0
IsPlaceOf l fs front rest = (s : Shape) → take front fs ++ (l, s) ∷ drop rest fs ≡ with_label l s fs
