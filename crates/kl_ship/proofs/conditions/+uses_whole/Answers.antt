use Rattle.std.proofs.Common.{◌+◌, arith, refl}
use Rattle.kl_core.specs.Trees.{view, parts_view}
use Rattle.kl_ship.specs.Shipping.{other_view}
use Rattle.kl_ship.specs.Delegation.{whole_use, whole_use_parts, whole_use_arms}
use Rattle.kl_plan.proofs.Finding.{found_inside, found_other, found_nowhere}
use Rattle.kl_ship.proofs.Finding.{whole_case}
use Rattle.kl_ship.proofs.conditions.+uses_whole.Goals as goal

pub uses_whole-returns-then-uses_whole_labelled : goal.uses_whole-returns-then-uses_whole_labelled
uses_whole-returns-then-uses_whole_labelled t c n e =
    found_inside (λ x. whole_use n (view x)) (λ x. whole_use_parts (n + 1) (parts_view x)) (λ x. whole_use_arms n (other_view x)) _ _ _ _ _ _ _ _
    (whole_case n _ _ _ _ c.in-Case.is) c.get-in-Case.ensures (c.uses_whole-in-Case.ensures n e) c.if-uses_whole.false c.slice-in-Case.ensures (c.uses_whole_labelled-in-Case.ensures (n + 1) (omega arith)) c.if-uses_whole_labelled.true

pub uses_whole-returns-in-Some : goal.uses_whole-returns-in-Some
uses_whole-returns-in-Some t c n e =
    found_other (λ x. whole_use n (view x)) (λ x. whole_use_parts (n + 1) (parts_view x)) (λ x. whole_use_arms n (other_view x)) _ _ _ _ _ _ _ _ _ _ _
    (whole_case n _ _ _ _ c.in-Case.is) c.get-in-Case.ensures (c.uses_whole-in-Case.ensures n e) c.if-uses_whole.false c.slice-in-Case.ensures (c.uses_whole_labelled-in-Case.ensures (n + 1) (omega arith)) c.if-uses_whole_labelled.false
    c.in-Some.is c.get-in-Some.ensures (c.uses_whole-in-Some.ensures n e)

pub uses_whole-returns-in-None : goal.uses_whole-returns-in-None
uses_whole-returns-in-None t c n e =
    found_nowhere (λ x. whole_use n (view x)) (λ x. whole_use_parts (n + 1) (parts_view x)) (λ x. whole_use_arms n (other_view x)) _ _ _ _ _ _ _ _
    (whole_case n _ _ _ _ c.in-Case.is) c.get-in-Case.ensures (c.uses_whole-in-Case.ensures n e) c.if-uses_whole.false c.slice-in-Case.ensures (c.uses_whole_labelled-in-Case.ensures (n + 1) (omega arith)) c.if-uses_whole_labelled.false
    c.in-None.is refl
