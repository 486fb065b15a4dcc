use Rattle.std.proofs.Common.{◌∙◌}
use Rattle.calls_plans.proofs.Terms.{loop_memos, loop_types}
use Rattle.calls_plans.proofs.cursors.plan.Goals as goal

pub returns-clause-types : goal.returns-clause-types
returns-clause-types c = loop_types _ _ _ _ _ _ (c.of-2.ensures ∙ c.in_ok-inner.ensures.items) (c.of.ensures ∙ c.in_ok-outer.ensures.items) c.in_ok-body.ensures c.in_ok-source.ensures

pub returns-clause-memos : goal.returns-clause-memos
returns-clause-memos c = loop_memos _ _ _ _ _ _ (c.of-2.ensures ∙ c.in_ok-inner.ensures.items) (c.of.ensures ∙ c.in_ok-outer.ensures.items) c.in_ok-body.ensures c.in_ok-source.ensures
