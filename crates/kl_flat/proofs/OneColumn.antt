-- The type of tables of one column of integers.
use Rattle.std.proofs.Common.{ℕ, List, [], ◌∷◌, sym, ap, ◌∙◌, subst}
use Rattle.kl_value.specs.declared.Kind.{Kind}
use Rattle.kl_type.specs.Ground.{coll, IsGround, IsProper}
use Rattle.kl_type.specs.declared.ground.Ty.{Ty}
use Rattle.kl_type.specs.declared.ground.Ty.TheVariants as ty
use Rattle.kl_type.proofs.GroundLemmas.{ground-Int, ground-Rec, ground-Coll}

abbrev one : List ℕ → List (List ℕ × Ty)
one l = (l, ty.Int) ∷ []

pub one_proper : (k : Kind) (l : List ℕ) → IsProper (ty.Coll k (ty.Rec (one l)))
one_proper k l = subst IsGround (sym (ground-Coll k (ty.Rec (one l)) ∙ ap (coll k) (ground-Rec (one l)))) (λ m t e. cc, subst IsGround (sym ground-Int) tt, tt)
