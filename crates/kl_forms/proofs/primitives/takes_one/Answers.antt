use Rattle.std.proofs.Common.{[], ◌∷◌}
use Rattle.kl_type.specs.Ground.{coll}
use Rattle.kl_prim.specs.declared.rows.Shape.TheVariants as shape
use Rattle.kl_forms.proofs.Shapes.{arm, one_is, head_is}
use Rattle.kl_forms.proofs.primitives.takes_one.Goals as goal

pub returns-in-CollTest : goal.returns-in-CollTest
returns-in-CollTest c = arm _ _ _ _ shape.CollTest (λ s. s.types c.args.arg ∷ []) c.args.want _ c.in-CollTest.is
    (λ s d. (d.0, d.1, head_is (s.types c.args.arg) (coll d.0 d.1) d.2, d.3)) (λ s d. (d.0, d.1, one_is (s.types c.args.arg) (coll d.0 d.1) d.2, d.3)) c.is_told.ensures

pub returns-in-CollCount : goal.returns-in-CollCount
returns-in-CollCount c = arm _ _ _ _ shape.CollCount (λ s. s.types c.args.arg ∷ []) c.args.want _ c.in-CollCount.is
    (λ s d. (d.0, d.1, head_is (s.types c.args.arg) (coll d.0 d.1) d.2, d.3)) (λ s d. (d.0, d.1, one_is (s.types c.args.arg) (coll d.0 d.1) d.2, d.3)) c.is_told-in-CollCount.ensures

pub returns-in-ToSet : goal.returns-in-ToSet
returns-in-ToSet c = arm _ _ _ _ shape.ToSet (λ s. s.types c.args.arg ∷ []) c.args.want _ c.in-ToSet.is
    (λ s d. (d.0, d.1, head_is (s.types c.args.arg) (coll d.0 d.1) d.2, d.3)) (λ s d. (d.0, d.1, one_is (s.types c.args.arg) (coll d.0 d.1) d.2, d.3)) c.is_turned.ensures

pub returns-in-ToBag : goal.returns-in-ToBag
returns-in-ToBag c = arm _ _ _ _ shape.ToBag (λ s. s.types c.args.arg ∷ []) c.args.want _ c.in-ToBag.is
    (λ s d. (d.0, d.1, head_is (s.types c.args.arg) (coll d.0 d.1) d.2, d.3)) (λ s d. (d.0, d.1, one_is (s.types c.args.arg) (coll d.0 d.1) d.2, d.3)) c.is_turned-in-ToBag.ensures

pub returns-in-ToList : goal.returns-in-ToList
returns-in-ToList c = arm _ _ _ _ shape.ToList (λ s. s.types c.args.arg ∷ []) c.args.want _ c.in-ToList.is
    (λ s d. (d.0, d.1, head_is (s.types c.args.arg) (coll d.0 d.1) d.2, d.3)) (λ s d. (d.0, d.1, one_is (s.types c.args.arg) (coll d.0 d.1) d.2, d.3)) c.is_turned-in-ToList.ensures

pub returns-in-CollSum : goal.returns-in-CollSum
returns-in-CollSum c = arm _ _ _ _ shape.CollSum (λ s. s.types c.args.arg ∷ []) c.args.want _ c.in-CollSum.is (λ s d. d) (λ s d. d) c.is_sum.ensures

pub returns-in-CollSame : goal.returns-in-CollSame
returns-in-CollSame c = arm _ _ _ _ shape.CollSame (λ s. s.types c.args.arg ∷ []) c.args.want _ c.in-CollSame.is (λ s d. d) (λ s d. d) c.is_kept.ensures

pub returns-in-Flatten : goal.returns-in-Flatten
returns-in-Flatten c = arm _ _ _ _ shape.Flatten (λ s. s.types c.args.arg ∷ []) c.args.want _ c.in-Flatten.is (λ s d. d) (λ s d. d) c.is_flat.ensures
