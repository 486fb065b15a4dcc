use Rattle.std.proofs.Common.{ap, ◌∙◌}
use Rattle.kl_plan.specs.Erased.{erased}
use Rattle.kl_plan.proofs.Finding.{as_term}
use Rattle.kl_ship.proofs.Finding.{none_taken}
use Rattle.kl_plan.proofs.Views.{view_If}
use Rattle.kl_ship.proofs.erased.+takes_none.Goals as goal

pub returns-then-not-is_test : goal.returns-then-not-is_test
returns-then-not-is_test t c =
    none_taken as_term _ _ _ _ _ _ _ _ _ _ _ _ _ (ap as_term c.in-If.is ∙ ap erased (view_If _ _ _)) c.get.ensures c.get-in-If.ensures c.is_front.ensures c.if-is_front.true
    c.get-then-is_front.ensures c.is_test.ensures c.if-not-is_test.true c.get-then-not-is_test.ensures c.takes_none-then-not-is_test.ensures
