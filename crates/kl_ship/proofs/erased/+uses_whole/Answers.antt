use Rattle.std.proofs.Common.{◌+◌, arith, refl}
use Rattle.kl_plan.specs.Erased.{erased_fields, erased_branches}
use Rattle.kl_plan.specs.Nodes.{fields_view}
use Rattle.kl_plan.specs.Joins.{other_node}
use Rattle.kl_ship.specs.Delegation.{whole_use, whole_use_parts, whole_use_arms}
use Rattle.kl_plan.proofs.Finding.{as_term, found_inside, found_other, found_nowhere}
use Rattle.kl_ship.proofs.Finding.{plan_whole_case}
use Rattle.kl_ship.proofs.JoinBodies.{whole_first, whole_second, whole_third, whole_join_first, whole_join_last}
use Rattle.kl_ship.proofs.erased.+uses_whole.Goals as goal

pub uses_whole-returns-then-uses_whole_labelled : goal.uses_whole-returns-then-uses_whole_labelled
uses_whole-returns-then-uses_whole_labelled t c n e =
    found_inside (λ x. whole_use n (as_term x)) (λ x. whole_use_parts (n + 1) (erased_fields (fields_view x))) (λ x. whole_use_arms n (erased_branches (other_node x))) _ _ _ _ _ _ _ _
    (plan_whole_case n _ _ _ _ c.in-Case.is) c.get-in-Case.ensures (c.uses_whole-in-Case.ensures n e) c.if-uses_whole.false c.slice-in-Case.ensures (c.uses_whole_labelled-in-Case.ensures (n + 1) (omega arith)) c.if-uses_whole_labelled.true

pub uses_whole-returns-in-Some : goal.uses_whole-returns-in-Some
uses_whole-returns-in-Some t c n e =
    found_other (λ x. whole_use n (as_term x)) (λ x. whole_use_parts (n + 1) (erased_fields (fields_view x))) (λ x. whole_use_arms n (erased_branches (other_node x))) _ _ _ _ _ _ _ _ _ _ _
    (plan_whole_case n _ _ _ _ c.in-Case.is) c.get-in-Case.ensures (c.uses_whole-in-Case.ensures n e) c.if-uses_whole.false c.slice-in-Case.ensures (c.uses_whole_labelled-in-Case.ensures (n + 1) (omega arith)) c.if-uses_whole_labelled.false
    c.in-Some.is c.get-in-Some.ensures (c.uses_whole-in-Some.ensures n e)

pub uses_whole-returns-in-None : goal.uses_whole-returns-in-None
uses_whole-returns-in-None t c n e =
    found_nowhere (λ x. whole_use n (as_term x)) (λ x. whole_use_parts (n + 1) (erased_fields (fields_view x))) (λ x. whole_use_arms n (erased_branches (other_node x))) _ _ _ _ _ _ _ _
    (plan_whole_case n _ _ _ _ c.in-Case.is) c.get-in-Case.ensures (c.uses_whole-in-Case.ensures n e) c.if-uses_whole.false c.slice-in-Case.ensures (c.uses_whole_labelled-in-Case.ensures (n + 1) (omega arith)) c.if-uses_whole_labelled.false
    c.in-None.is refl

pub uses_whole-returns-then-uses_whole_outer : goal.uses_whole-returns-then-uses_whole_outer
uses_whole-returns-then-uses_whole_outer t c n e =
    whole_join_first n _ _ _ _ c.in-Join.is c.get-in-Join.ensures
    (c.uses_whole_outer.ensures (n + 1) (omega arith)) c.if-uses_whole_outer.true

pub uses_whole-returns-else-uses_whole_outer : goal.uses_whole-returns-else-uses_whole_outer
uses_whole-returns-else-uses_whole_outer t c n e =
    whole_join_last n _ _ _ _ c.in-Join.is c.get-in-Join.ensures _ _
    (c.uses_whole_outer.ensures (n + 1) (omega arith)) c.if-uses_whole_outer.false
    c.deref.ensures (c.uses_whole-in-Join.ensures n e)

pub uses_whole_outer-returns-then-uses_whole_all : goal.uses_whole_outer-returns-then-uses_whole_all
uses_whole_outer-returns-then-uses_whole_all t c n e = whole_first n c.args.join.now _ _ c.slice.ensures
    (c.uses_whole_all.ensures n e) c.if-uses_whole_all.true

pub uses_whole_outer-returns-then-uses_whole_key : goal.uses_whole_outer-returns-then-uses_whole_key
uses_whole_outer-returns-then-uses_whole_key t c n e =
    whole_second n c.args.join.now _ _ c.slice.ensures (c.uses_whole_all.ensures n e) _ c.if-uses_whole_all.false
    (c.uses_whole_key.ensures n e) c.if-uses_whole_key.true

pub uses_whole_outer-returns : goal.uses_whole_outer-returns
uses_whole_outer-returns t c n e =
    whole_third n c.args.join.now _ _ c.slice.ensures (c.uses_whole_all.ensures n e) _ _ c.if-uses_whole_all.false
    (c.uses_whole_key.ensures n e) c.if-uses_whole_key.false
    (c.uses_whole.ensures (n + 1) (omega arith))
