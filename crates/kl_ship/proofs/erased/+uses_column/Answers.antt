use Rattle.std.proofs.Common.{◌+◌, arith, refl}
use Rattle.kl_plan.specs.Erased.{erased_fields, erased_branches}
use Rattle.kl_plan.specs.Nodes.{fields_view}
use Rattle.kl_plan.specs.Joins.{other_node}
use Rattle.kl_ship.specs.Delegation.{column_use, column_use_parts, column_use_arms}
use Rattle.kl_plan.proofs.Finding.{as_term, found_inside, found_other, found_nowhere}
use Rattle.kl_ship.proofs.Finding.{plan_column_case}
use Rattle.kl_ship.proofs.JoinBodies.{column_first, column_second, column_third, column_join_first, column_join_last}
use Rattle.kl_ship.proofs.erased.+uses_column.Goals as goal

pub uses_column-returns-then-uses_column_labelled : goal.uses_column-returns-then-uses_column_labelled
uses_column-returns-then-uses_column_labelled t c n e =
    let l = c.args.label.now in
    found_inside (λ x. column_use n l (as_term x)) (λ x. column_use_parts (n + 1) l (erased_fields (fields_view x))) (λ x. column_use_arms n l (erased_branches (other_node x))) _ _ _ _ _ _ _ _
    (plan_column_case n l _ _ _ _ c.in-Case.is) c.get-in-Case.ensures (c.uses_column-in-Case.ensures n e) c.if-uses_column.false c.slice-in-Case.ensures (c.uses_column_labelled-in-Case.ensures (n + 1) (omega arith)) c.if-uses_column_labelled.true

pub uses_column-returns-in-Some : goal.uses_column-returns-in-Some
uses_column-returns-in-Some t c n e =
    let l = c.args.label.now in
    found_other (λ x. column_use n l (as_term x)) (λ x. column_use_parts (n + 1) l (erased_fields (fields_view x))) (λ x. column_use_arms n l (erased_branches (other_node x))) _ _ _ _ _ _ _ _ _ _ _
    (plan_column_case n l _ _ _ _ c.in-Case.is) c.get-in-Case.ensures (c.uses_column-in-Case.ensures n e) c.if-uses_column.false c.slice-in-Case.ensures (c.uses_column_labelled-in-Case.ensures (n + 1) (omega arith)) c.if-uses_column_labelled.false
    c.in-Some.is c.get-in-Some.ensures (c.uses_column-in-Some.ensures n e)

pub uses_column-returns-in-None : goal.uses_column-returns-in-None
uses_column-returns-in-None t c n e =
    let l = c.args.label.now in
    found_nowhere (λ x. column_use n l (as_term x)) (λ x. column_use_parts (n + 1) l (erased_fields (fields_view x))) (λ x. column_use_arms n l (erased_branches (other_node x))) _ _ _ _ _ _ _ _
    (plan_column_case n l _ _ _ _ c.in-Case.is) c.get-in-Case.ensures (c.uses_column-in-Case.ensures n e) c.if-uses_column.false c.slice-in-Case.ensures (c.uses_column_labelled-in-Case.ensures (n + 1) (omega arith)) c.if-uses_column_labelled.false
    c.in-None.is refl

pub uses_column-returns-then-uses_column_outer : goal.uses_column-returns-then-uses_column_outer
uses_column-returns-then-uses_column_outer t c n e =
    let l = c.args.label.now in
    column_join_first n _ _ _ _ c.in-Join.is c.get-in-Join.ensures l
    (c.uses_column_outer.ensures (n + 1) (omega arith)) c.if-uses_column_outer.true

pub uses_column-returns-else-uses_column_outer : goal.uses_column-returns-else-uses_column_outer
uses_column-returns-else-uses_column_outer t c n e =
    let l = c.args.label.now in
    column_join_last n _ _ _ _ c.in-Join.is c.get-in-Join.ensures l _ _
    (c.uses_column_outer.ensures (n + 1) (omega arith)) c.if-uses_column_outer.false
    c.deref.ensures (c.uses_column-in-Join.ensures n e)

pub uses_column_outer-returns-then-uses_column_all : goal.uses_column_outer-returns-then-uses_column_all
uses_column_outer-returns-then-uses_column_all t c n e = column_first n c.args.label.now c.args.join.now _ _ c.slice.ensures
    (c.uses_column_all.ensures n e) c.if-uses_column_all.true

pub uses_column_outer-returns-then-uses_column_key : goal.uses_column_outer-returns-then-uses_column_key
uses_column_outer-returns-then-uses_column_key t c n e =
    column_second n c.args.label.now c.args.join.now _ _ c.slice.ensures (c.uses_column_all.ensures n e) _ c.if-uses_column_all.false
    (c.uses_column_key.ensures n e) c.if-uses_column_key.true

pub uses_column_outer-returns : goal.uses_column_outer-returns
uses_column_outer-returns t c n e =
    column_third n c.args.label.now c.args.join.now _ _ c.slice.ensures (c.uses_column_all.ensures n e) _ _ c.if-uses_column_all.false
    (c.uses_column_key.ensures n e) c.if-uses_column_key.false
    (c.uses_column.ensures (n + 1) (omega arith))
