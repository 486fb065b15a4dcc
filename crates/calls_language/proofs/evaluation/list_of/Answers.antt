use Rattle.std.proofs.Common.{◌≡◌, List, [], ◌∷◌, refl, sym, subst, ap, ◌∙◌}
use Rattle.kl_core.specs.Trees.{view, make, trees_view, trees, no_trees}
use Rattle.kl_core.specs.Typing.{CoreTypes}
use Rattle.kl_core.specs.declared.Term.{Term}
use Rattle.kl_core.specs.declared.Term.TheVariants as term
use Rattle.kl_core.proofs.Proper.{types_proper}
use Rattle.kl_core.proofs.Views.{view_Make}
use Rattle.kl_type.specs.Ground.{coll}
use Rattle.kl_value.specs.declared.Kind.TheVariants as kind
use Rattle.kl_ask.specs.World.{types_of}
use Rattle.calls_language.proofs.evaluation.list_of.Goals as goal

view_single : (x : Term) (ts : List Term) → ts ≡ x ∷ [] → view (term.Make kind.List ts) ≡ make kind.List (trees (view x) no_trees)
view_single x ts is = view_Make kind.List ts ∙ ap (λ us. make kind.List (trees_view us)) is

pub returns : goal.returns
returns c env w is ready =
    let s = c.requires env w is ready in
    (s.0, s.1, s.2, subst (λ t. CoreTypes (types_of w) s.0 t (coll kind.List s.1)) (sym (view_single _ _ (c.of.ensures ∙ c.in_ok-items.ensures.items))) (s.1, refl, types_proper (types_of w) _ s.0 s.1 s.3, (s.3, tt)), s.4)
