use Rattle.std.proofs.Common.{◌+◌, arith, refl}
use Rattle.kl_plan.specs.Joins.{other_node}
use Rattle.kl_plan.specs.Nodes.{view, fields_view}
use Rattle.kl_plan.specs.Occurs.{occurs, occurs_fields, occurs_branches}
use Rattle.kl_plan.proofs.Finding.{found_inside, found_beyond}
use Rattle.kl_joins.proofs.Positioned.{case_stands}
use Rattle.kl_joins.proofs.frees.+stands.Goals as goal

pub stands-returns-then-stands_labelled : goal.stands-returns-then-stands_labelled
stands-returns-then-stands_labelled t c n e =
    found_inside (λ x. occurs n (view x)) (λ x. occurs_fields (n + 1) (fields_view x)) (λ x. occurs_branches n (other_node x)) _ _ _ _ _ _ _ _
    (case_stands n _ _ _ _ c.in-Case.is) c.get-in-Case.ensures (c.stands-in-Case.ensures n e) c.if-stands.false c.slice-in-Case.ensures
    (c.stands_labelled-in-Case.ensures (n + 1) (omega arith)) c.if-stands_labelled.true

pub stands-returns-else-stands_labelled : goal.stands-returns-else-stands_labelled
stands-returns-else-stands_labelled t c n e =
    found_beyond (λ x. occurs n (view x)) (λ x. occurs_fields (n + 1) (fields_view x)) (λ x. occurs_branches n (other_node x))
    _ _ _ _ _ _ _ _ _ _
    (case_stands n _ _ _ _ c.in-Case.is) c.get-in-Case.ensures (c.stands-in-Case.ensures n e) c.if-stands.false c.slice-in-Case.ensures
    (c.stands_labelled-in-Case.ensures (n + 1) (omega arith)) c.if-stands_labelled.false
    refl (c.stands_other.ensures n e)
