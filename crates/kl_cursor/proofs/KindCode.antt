-- The kind as which a choice among branches comes.
use Rattle.std.proofs.Common.{◌≡◌, List, [], ◌∷◌, map, Option, Some, None, refl, sym, ap, ◌∙◌}
use mathlib.Core.Path.{ap₂}
use Rattle.kl_value.specs.declared.Kind.{Kind}
use Rattle.kl_outcome.specs.Outcome.{Name}
use Rattle.kl_plan.specs.declared.plan.Plan.{Plan}
use Rattle.kl_plan.specs.declared.plan.Plan.TheVariants as plans
use Rattle.kl_plan.specs.Kinds.{first_kind, kind_of_branches, kind_of_items}
use Rattle.kl_plan.specs.Nodes.{Branches, branches_of, no_branches, rest, view, view_branch}
use Rattle.kl_plan.specs.Joins.{other_node}
use Rattle.kl_plan.proofs.Views.{view_Case}

first_again : (a b c : Option Kind) → first_kind (first_kind a b) c ≡ first_kind a (first_kind b c)
first_again (Some k) b c = refl
first_again None b c = refl

branches_kind : (bs : List (Name × Plan)) (l : Branches) → kind_of_branches (branches_of (map view_branch bs) l) ≡ first_kind (kind_of_branches (branches_of (map view_branch bs) no_branches)) (kind_of_branches l)
branches_kind [] l = refl
branches_kind (b ∷ bs) l =
    ap (first_kind (kind_of_items (view b.1))) (branches_kind bs l) ∙ sym (first_again (kind_of_items (view b.1)) (kind_of_branches (branches_of (map view_branch bs) no_branches)) (kind_of_branches l))

pub case_kind : (t a o d : Plan) (ps qs : List (Name × Plan)) (c : Option Plan) (k j r : Option Kind) → t ≡ plans.Case a ps c → qs ≡ ps → k ≡ kind_of_branches (branches_of (map view_branch qs) no_branches) → c ≡ Some o → d ≡ o
    → j ≡ kind_of_items (view d) → r ≡ first_kind k j → r ≡ kind_of_items (view t)
case_kind t a o d ps qs c k j r e f g h i l m =
    m ∙ ap₂ first_kind (g ∙ ap (λ x. kind_of_branches (branches_of (map view_branch x) no_branches)) f) (l ∙ ap (λ x. kind_of_items (view x)) i)
    ∙ sym (ap kind_of_items (ap view e ∙ view_Case a ps c) ∙ ap (λ x. kind_of_branches (branches_of (map view_branch ps) (other_node x))) h ∙ branches_kind ps (rest (view o)))

pub case_first : (t a : Plan) (ps qs : List (Name × Plan)) (c : Option Plan) (j : Kind) → t ≡ plans.Case a ps c → qs ≡ ps → Some j ≡ kind_of_branches (branches_of (map view_branch qs) no_branches) → Some j ≡ kind_of_items (view t)
case_first t a ps qs c j e f g =
    ap (λ k. first_kind k (kind_of_branches (other_node c))) (g ∙ ap (λ x. kind_of_branches (branches_of (map view_branch x) no_branches)) f)
    ∙ sym (ap kind_of_items (ap view e ∙ view_Case a ps c) ∙ branches_kind ps (other_node c))
