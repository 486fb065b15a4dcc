use Rattle.std.proofs.Common.{[], ◌∷◌, refl, sym, ap, ◌∙◌}
use Rattle.kl_type.specs.Ground.{coll}
use Rattle.kl_prim.specs.declared.rows.Shape.TheVariants as shape
use Rattle.kl_forms.proofs.Shapes.{arm, two_are, heads_are}
use Rattle.kl_forms.proofs.primitives.takes_two.Goals as goal

pub returns-in-Compare : goal.returns-in-Compare
returns-in-Compare c = arm _ _ _ _ shape.Compare (λ s. s.types c.args.first ∷ s.types c.args.second ∷ []) c.args.want _ c.in-Compare.is
    (λ s d. (let e = heads_are (s.types c.args.first) (s.types c.args.second) d.0 d.0 d.1 in (e.0 ∙ sym e.1, d.2)))
    (λ s d. (s.types c.args.second, two_are (s.types c.args.first) (s.types c.args.second) _ _ d.0 refl, d.1)) c.is_compared.ensures

pub returns-in-Member : goal.returns-in-Member
returns-in-Member c = arm _ _ _ _ shape.Member (λ s. s.types c.args.first ∷ s.types c.args.second ∷ []) c.args.want _ c.in-Member.is
    (λ s d. (let e = heads_are (s.types c.args.first) (s.types c.args.second) d.1 (coll d.0 d.1) d.2 in ((d.0, e.1 ∙ ap (coll d.0) (sym e.0)), d.3)))
    (λ s d. (d.0.0, s.types c.args.first, two_are (s.types c.args.first) (s.types c.args.second) _ _ refl d.0.1, d.1)) c.is_member.ensures

pub returns-in-Take : goal.returns-in-Take
returns-in-Take c = arm _ _ _ _ shape.Take (λ s. s.types c.args.first ∷ s.types c.args.second ∷ []) c.args.want _ c.in-Take.is (λ s d. d) (λ s d. d) c.is_taken.ensures
