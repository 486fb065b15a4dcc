-- The ground type of a collection of records.
use Rattle.std.proofs.Common.{◌≡◌, ℕ, List, length, refl, sym, ap, ◌∙◌, subst}
use Rattle.kl_value.specs.declared.Kind.{Kind}
use Rattle.kl_type.specs.Ground.{Ground, rec, coll, row_by, ground_of}
use Rattle.kl_type.specs.declared.ground.Ty.{Ty, Ty-F, out-Ty, roll-Ty, roll-out-Ty}
use Rattle.kl_type.specs.declared.ground.Ty.TheVariants as ty
use Rattle.kl_type.proofs.GroundLemmas.{ground-Rec, ground-Coll}
use Rattle.kl_ask.specs.Tables.{columns_of, fields_layer, items_layer}

fields_shape : (x : Ty-F Ty) → (length (fields_layer x) ≡ 0 → ⊥) → ground_of (roll-Ty x) ≡ rec (row_by ground_of (fields_layer x))
fields_shape (Ty-F.Rec fs) some = ap ground_of (ty.rolls-Rec fs) ∙ ground-Rec fs
fields_shape x some = absurd (some refl)

abbrev pub Shape : Ground → List (List ℕ × Ty) → Type 0
Shape t columns = (k : Kind) × (t ≡ coll k (rec (row_by ground_of columns)))

items_shape : (x : Ty-F Ty) → (length (items_layer x) ≡ 0 → ⊥) → Shape (ground_of (roll-Ty x)) (items_layer x)
items_shape (Ty-F.Coll k u) some = (k, ap ground_of (ty.rolls-Coll k u) ∙ ground-Coll k u ∙ ap (coll k) (ap ground_of (sym (roll-out-Ty u)) ∙ fields_shape (out-Ty u) some))
items_shape x some = absurd (some refl)

-- a type that has columns
pub columns_shape : (t : Ty) → (length (columns_of t) ≡ 0 → ⊥) → Shape (ground_of t) (columns_of t)
columns_shape t some = subst (λ u. Shape (ground_of u) (columns_of t)) (roll-out-Ty t) (items_shape (out-Ty t) some)
