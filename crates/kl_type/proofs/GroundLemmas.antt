-- The ground type that a type of the program stands for, shape by shape.
use Rattle.std.proofs.Common.{◌≡◌, ℕ, List, [], ◌∷◌, map, refl, ap, ◌∙◌}
use Rattle.kl_value.specs.declared.Kind.{Kind}
use Rattle.kl_type.specs.Ground.{Ground, bool, int, str, rec, var, coll, row, row_by, ground_layer, ground_of}
use Rattle.kl_type.specs.declared.ground.Ty.{Ty, Ty-F, out-Ty, map-Ty, fold_out-Ty}
use Rattle.kl_type.specs.declared.ground.Ty.TheVariants as ty

rows : (fs : List (List ℕ × Ty)) → row_by (λ (t : Ground). t) (map (λ (f : List ℕ × Ty). (f.0, ground_of f.1)) fs) ≡ row_by ground_of fs
rows [] = refl
rows (f ∷ fs) = ap (λ r. row f.0 (ground_of f.1) r) (rows fs)

layer : (x : Ty-F Ty) → ground_layer (λ (t : Ground). t) (map-Ty Ty Ground ground_of x) ≡ ground_layer ground_of x
layer (Ty-F.Rec fs) = ap rec (rows fs)
layer (Ty-F.Var fs) = ap var (rows fs)
layer x = refl

at_layer : (t : Ty) (x : Ty-F Ty) → out-Ty t ≡ x → ground_of t ≡ ground_layer ground_of x
unfolding ground_of
at_layer t x e = fold_out-Ty Ground (ground_layer (λ t. t)) t ∙ ap (λ y. ground_layer (λ (t : Ground). t) (map-Ty Ty Ground ground_of y)) e ∙ layer x

pub ground-Bool : ground_of ty.Bool ≡ bool
ground-Bool = at_layer _ _ ty.outs-Bool

pub ground-Int : ground_of ty.Int ≡ int
ground-Int = at_layer _ _ ty.outs-Int

pub ground-Str : ground_of ty.Str ≡ str
ground-Str = at_layer _ _ ty.outs-Str

pub ground-Rec : (fs : List (List ℕ × Ty)) → ground_of (ty.Rec fs) ≡ rec (row_by ground_of fs)
ground-Rec fs = at_layer _ _ (ty.outs-Rec fs)

pub ground-Var : (fs : List (List ℕ × Ty)) → ground_of (ty.Var fs) ≡ var (row_by ground_of fs)
ground-Var fs = at_layer _ _ (ty.outs-Var fs)

pub ground-Coll : (k : Kind) (t : Ty) → ground_of (ty.Coll k t) ≡ coll k (ground_of t)
ground-Coll k t = at_layer _ _ (ty.outs-Coll k t)
