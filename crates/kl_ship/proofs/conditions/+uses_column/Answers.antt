use Rattle.std.proofs.Common.{◌+◌, arith, refl}
use Rattle.kl_core.specs.Trees.{view, parts_view}
use Rattle.kl_ship.specs.Shipping.{other_view}
use Rattle.kl_ship.specs.Delegation.{column_use, column_use_parts, column_use_arms}
use Rattle.kl_plan.proofs.Finding.{found_inside, found_other, found_nowhere}
use Rattle.kl_ship.proofs.Finding.{column_case}
use Rattle.kl_ship.proofs.conditions.+uses_column.Goals as goal

pub uses_column-returns-then-uses_column_labelled : goal.uses_column-returns-then-uses_column_labelled
uses_column-returns-then-uses_column_labelled t c n e =
    let l = c.args.label.now in
    found_inside (λ x. column_use n l (view x)) (λ x. column_use_parts (n + 1) l (parts_view x)) (λ x. column_use_arms n l (other_view x)) _ _ _ _ _ _ _ _
    (column_case n l _ _ _ _ c.in-Case.is) c.get-in-Case.ensures (c.uses_column-in-Case.ensures n e) c.if-uses_column.false c.slice-in-Case.ensures (c.uses_column_labelled-in-Case.ensures (n + 1) (omega arith)) c.if-uses_column_labelled.true

pub uses_column-returns-in-Some : goal.uses_column-returns-in-Some
uses_column-returns-in-Some t c n e =
    let l = c.args.label.now in
    found_other (λ x. column_use n l (view x)) (λ x. column_use_parts (n + 1) l (parts_view x)) (λ x. column_use_arms n l (other_view x)) _ _ _ _ _ _ _ _ _ _ _
    (column_case n l _ _ _ _ c.in-Case.is) c.get-in-Case.ensures (c.uses_column-in-Case.ensures n e) c.if-uses_column.false c.slice-in-Case.ensures (c.uses_column_labelled-in-Case.ensures (n + 1) (omega arith)) c.if-uses_column_labelled.false
    c.in-Some.is c.get-in-Some.ensures (c.uses_column-in-Some.ensures n e)

pub uses_column-returns-in-None : goal.uses_column-returns-in-None
uses_column-returns-in-None t c n e =
    let l = c.args.label.now in
    found_nowhere (λ x. column_use n l (view x)) (λ x. column_use_parts (n + 1) l (parts_view x)) (λ x. column_use_arms n l (other_view x)) _ _ _ _ _ _ _ _
    (column_case n l _ _ _ _ c.in-Case.is) c.get-in-Case.ensures (c.uses_column-in-Case.ensures n e) c.if-uses_column.false c.slice-in-Case.ensures (c.uses_column_labelled-in-Case.ensures (n + 1) (omega arith)) c.if-uses_column_labelled.false
    c.in-None.is refl
