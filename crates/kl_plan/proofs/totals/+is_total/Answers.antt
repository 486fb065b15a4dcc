use Rattle.std.proofs.Common.{refl}
use Rattle.kl_core.specs.Counts.{total_in, total_parts, total_arms}
use Rattle.kl_plan.specs.Erased.{erased_fields, erased_branches}
use Rattle.kl_plan.specs.Nodes.{fields_view}
use Rattle.kl_plan.specs.Joins.{other_node}
use Rattle.kl_plan.proofs.Finding.{as_term, missed_inside, met_other, met_everywhere, plan_total_case}
use Rattle.kl_plan.proofs.TotalJoins.{total_first, total_second, total_third, total_last}
use Rattle.kl_plan.proofs.totals.+is_total.Goals as goal

pub is_total-returns-then-not-are_total_labelled : goal.is_total-returns-then-not-are_total_labelled
is_total-returns-then-not-are_total_labelled t c =
    missed_inside (λ x. total_in (as_term x)) (λ x. total_parts (erased_fields (fields_view x))) (λ x. total_arms (erased_branches (other_node x))) _ _ _ _ _ _ _ _
    (plan_total_case _ _ _ _ c.in-Case.is) c.get-in-Case.ensures c.is_total-in-Case.ensures c.if-not-is_total.false c.slice-in-Case.ensures c.are_total_labelled-in-Case.ensures c.if-not-are_total_labelled.true

pub is_total-returns-in-Some : goal.is_total-returns-in-Some
is_total-returns-in-Some t c =
    met_other (λ x. total_in (as_term x)) (λ x. total_parts (erased_fields (fields_view x))) (λ x. total_arms (erased_branches (other_node x))) _ _ _ _ _ _ _ _ _ _ _
    (plan_total_case _ _ _ _ c.in-Case.is) c.get-in-Case.ensures c.is_total-in-Case.ensures c.if-not-is_total.false c.slice-in-Case.ensures c.are_total_labelled-in-Case.ensures c.if-not-are_total_labelled.false
    c.in-Some.is c.get-in-Some.ensures c.is_total-in-Some.ensures

pub is_total-returns-in-None : goal.is_total-returns-in-None
is_total-returns-in-None t c =
    met_everywhere (λ x. total_in (as_term x)) (λ x. total_parts (erased_fields (fields_view x))) (λ x. total_arms (erased_branches (other_node x))) _ _ _ _ _ _ _ _
    (plan_total_case _ _ _ _ c.in-Case.is) c.get-in-Case.ensures c.is_total-in-Case.ensures c.if-not-is_total.false c.slice-in-Case.ensures c.are_total_labelled-in-Case.ensures c.if-not-are_total_labelled.false
    c.in-None.is refl

pub is_total_join-returns-then-not-are_total : goal.is_total_join-returns-then-not-are_total
is_total_join-returns-then-not-are_total t c = total_first c.args.join.now _ _ c.slice.ensures c.are_total.ensures c.if-not-are_total.true

pub is_total_join-returns-then-not-is_total_key : goal.is_total_join-returns-then-not-is_total_key
is_total_join-returns-then-not-is_total_key t c =
    total_second c.args.join.now _ _ c.slice.ensures c.are_total.ensures _ c.if-not-are_total.false c.is_total_key.ensures
    c.if-not-is_total_key.true

pub is_total_join-returns-then-not-is_total : goal.is_total_join-returns-then-not-is_total
is_total_join-returns-then-not-is_total t c =
    total_third c.args.join.now _ _ c.slice.ensures c.are_total.ensures _ _ c.if-not-are_total.false c.is_total_key.ensures
    c.if-not-is_total_key.false
    c.is_total.ensures c.if-not-is_total.true

pub is_total_join-returns : goal.is_total_join-returns
is_total_join-returns t c =
    total_last c.args.join.now _ _ c.slice.ensures c.are_total.ensures _ _ _ c.if-not-are_total.false c.is_total_key.ensures
    c.if-not-is_total_key.false
    c.is_total.ensures c.if-not-is_total.false c.is_total-2.ensures
