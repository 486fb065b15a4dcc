-- The equations of `fits`, `filled` and `sound`.
use Rattle.std.proofs.Common.{◌≡◌, ℕ, Bool, true, false, ◌&&◌, List, [], ◌∷◌, map, refl, ap, ◌∙◌}
use Rattle.std.specs.List.{list_all}
use Rattle.std.specs.Option.{option_map_or}
use Rattle.std.specs.Cmp.Lexicographic.{pointwise}
use Rattle.std.specs.Prelude.{nat_eq}
use Rattle.kl_base.specs.Fields.{rises}
use Rattle.kl_value.specs.declared.Kind.{Kind}
use Rattle.kl_type.specs.Has.{fields_have}
use Rattle.kl_type.specs.Parts.{is_bool, is_int, is_string, record_of, variant_of, items_of}
use Rattle.kl_type.specs.declared.ground.Ty.{Ty}
use Rattle.kl_type.specs.declared.ground.Ty.TheVariants as ty
use Rattle.kl_shape.specs.Shapes.{filled, filled_field, filled_layer, fits, fits_layer, has_at, sound, sound_layer}
use Rattle.kl_shape.specs.declared.shape.Shape.{Shape, Shape-F, out-Shape, map-Shape, fold_out-Shape}
use Rattle.kl_shape.specs.declared.shape.Shape.TheVariants as shape

-- ---- which types

module _ {X Y : Type 0} (g : X → Y) (h : Y → Ty → Bool) where
  fields_have-map : (fs : List (List ℕ × X)) (ts : List (List ℕ × Ty)) → fields_have h (map (λ f. (f.0, g f.1)) fs) ts ≡ fields_have (λ x t. h (g x) t) fs ts
  fields_have-map [] [] = refl
  fields_have-map [] (t ∷ ts) = refl
  fields_have-map (f ∷ fs) [] = refl
  fields_have-map (f ∷ fs) (t ∷ ts) = ap (λ b. (pointwise nat_eq f.0 t.0 && h (g f.1) t.1) && b) (fields_have-map fs ts)

  labels_have-map : (fs : List (List ℕ × X)) (ts : List (List ℕ × Ty)) → list_all (λ (f : List ℕ × Y). has_at (h f.1) f.0 ts) (map (λ (f : List ℕ × X). (f.0, g f.1)) fs) ≡ list_all (λ (f : List ℕ × X). has_at (h (g f.1)) f.0 ts) fs
  labels_have-map [] ts = refl
  labels_have-map (f ∷ fs) ts = ap (λ b. has_at (h (g f.1)) f.0 ts && b) (labels_have-map fs ts)

  fits_layer-map : (x : Shape-F X) (t : Ty) → fits_layer h (map-Shape X Y g x) t ≡ fits_layer (λ x t. h (g x) t) x t
  fits_layer-map (Shape-F.Rec fs) t = λ i. option_map_or (λ ts. fields_have-map fs ts i) (record_of t) false
  fits_layer-map (Shape-F.Var fs) t = λ i. option_map_or (λ ts. labels_have-map fs ts i) (variant_of t) false
  fits_layer-map x t = refl

pub fits-out : (s : Shape) (t : Ty) → fits s t ≡ fits_layer fits (out-Shape s) t
unfolding fits
fits-out s t = (λ i. fold_out-Shape (Ty → Bool) (fits_layer (λ f t. f t)) s i t) ∙ fits_layer-map fits (λ f t. f t) (out-Shape s) t

at_layer : (s : Shape) (x : Shape-F Shape) → out-Shape s ≡ x → (t : Ty) → fits s t ≡ fits_layer fits x t
at_layer s x e t = fits-out s t ∙ ap (λ z. fits_layer fits z t) e

pub fits-Unseen : (t : Ty) → fits shape.Unseen t ≡ true
fits-Unseen = at_layer _ _ shape.outs-Unseen

pub fits-Bool : (t : Ty) → fits shape.Bool t ≡ is_bool t
fits-Bool = at_layer _ _ shape.outs-Bool

pub fits-Int : (t : Ty) → fits shape.Int t ≡ is_int t
fits-Int = at_layer _ _ shape.outs-Int

pub fits-Str : (t : Ty) → fits shape.Str t ≡ is_string t
fits-Str = at_layer _ _ shape.outs-Str

pub fits-Rec : (fs : List (List ℕ × Shape)) (t : Ty) → fits (shape.Rec fs) t ≡ option_map_or (λ ts. fields_have fits fs ts) (record_of t) false
fits-Rec fs = at_layer _ _ (shape.outs-Rec fs)

pub fits-Var : (fs : List (List ℕ × Shape)) (t : Ty) → fits (shape.Var fs) t ≡ option_map_or (λ ts. list_all (λ f. has_at (fits f.1) f.0 ts) fs) (variant_of t) false
fits-Var fs = at_layer _ _ (shape.outs-Var fs)

pub fits-Coll : (k : Kind) (s : Shape) (t : Ty) → fits (shape.Coll k s) t ≡ option_map_or (fits s) (items_of k t) false
fits-Coll k s = at_layer _ _ (shape.outs-Coll k s)

-- ---- the type with `string` in each gap

filled_at : (s : Shape) (x : Shape-F Shape) → out-Shape s ≡ x → filled s ≡ filled_layer (map-Shape Shape Ty filled x)
unfolding filled
filled_at s x e = fold_out-Shape Ty filled_layer s ∙ ap (λ y. filled_layer (map-Shape Shape Ty filled y)) e

pub filled-Unseen : filled shape.Unseen ≡ ty.Str
filled-Unseen = filled_at _ _ shape.outs-Unseen

pub filled-Bool : filled shape.Bool ≡ ty.Bool
filled-Bool = filled_at _ _ shape.outs-Bool

pub filled-Int : filled shape.Int ≡ ty.Int
filled-Int = filled_at _ _ shape.outs-Int

pub filled-Str : filled shape.Str ≡ ty.Str
filled-Str = filled_at _ _ shape.outs-Str

pub filled-Rec : (fs : List (List ℕ × Shape)) → filled (shape.Rec fs) ≡ ty.Rec (map filled_field fs)
filled-Rec fs = filled_at _ _ (shape.outs-Rec fs)

pub filled-Var : (fs : List (List ℕ × Shape)) → filled (shape.Var fs) ≡ ty.Var (map filled_field fs)
filled-Var fs = filled_at _ _ (shape.outs-Var fs)

pub filled-Coll : (k : Kind) (s : Shape) → filled (shape.Coll k s) ≡ ty.Coll k (filled s)
filled-Coll k s = filled_at _ _ (shape.outs-Coll k s)

pub ruleset filled_rules = (filled-Unseen, filled-Bool, filled-Int, filled-Str, filled-Rec, filled-Var, filled-Coll)

-- ---- soundness

sound_at : (s : Shape) (x : Shape-F Shape) → out-Shape s ≡ x → sound s ≡ sound_layer (map-Shape Shape Bool sound x)
unfolding sound
sound_at s x e = fold_out-Shape Bool sound_layer s ∙ ap (λ y. sound_layer (map-Shape Shape Bool sound y)) e

pub sound-Unseen : sound shape.Unseen ≡ true
sound-Unseen = sound_at _ _ shape.outs-Unseen

pub sound-Bool : sound shape.Bool ≡ true
sound-Bool = sound_at _ _ shape.outs-Bool

pub sound-Int : sound shape.Int ≡ true
sound-Int = sound_at _ _ shape.outs-Int

pub sound-Str : sound shape.Str ≡ true
sound-Str = sound_at _ _ shape.outs-Str

sounds : (fs : List (List ℕ × Shape)) → list_all (λ (f : List ℕ × Bool). f.1) (map (λ (f : List ℕ × Shape). (f.0, sound f.1)) fs) ≡ list_all (λ (f : List ℕ × Shape). sound f.1) fs
sounds [] = refl
sounds (f ∷ fs) = ap (λ b. sound f.1 && b) (sounds fs)

labels_kept : (fs : List (List ℕ × Shape)) → map (λ (f : List ℕ × Bool). f.0) (map (λ (f : List ℕ × Shape). (f.0, sound f.1)) fs) ≡ map (λ (f : List ℕ × Shape). f.0) fs
labels_kept [] = refl
labels_kept (f ∷ fs) = ap (λ ls. f.0 ∷ ls) (labels_kept fs)

pub sound-Rec : (fs : List (List ℕ × Shape)) → sound (shape.Rec fs) ≡ list_all (λ f. sound f.1) fs
sound-Rec fs = sound_at _ _ (shape.outs-Rec fs) ∙ sounds fs

pub sound-Var : (fs : List (List ℕ × Shape)) → sound (shape.Var fs) ≡ (rises (map (λ f. f.0) fs) && list_all (λ f. sound f.1) fs)
sound-Var fs = sound_at _ _ (shape.outs-Var fs) ∙ (λ i. rises (labels_kept fs i) && sounds fs i)

pub sound-Coll : (k : Kind) (s : Shape) → sound (shape.Coll k s) ≡ sound s
sound-Coll k s = sound_at _ _ (shape.outs-Coll k s)
