use Rattle.std.proofs.Common.{◌∙◌}
use Rattle.calls_plans.proofs.Sources.{one_makes_sense, one_small, one_sources, one_proper}
use Rattle.calls_plans.proofs.shipping.ships.Goals as goal

pub is_shipped-requires-clause-sense : goal.is_shipped-requires-clause-sense
is_shipped-requires-clause-sense c = one_makes_sense c.in_ok-numbers.numbers _ (c.deref.ensures.value ∙ c.in_ok-sources.ensures.items) c.in_ok-numbers.ensures.ty _ c.in_ok-term.ensures

pub is_shipped-requires-clause-small : goal.is_shipped-requires-clause-small
is_shipped-requires-clause-small c = one_small _ c.in_ok-term.ensures

pub is_shipped-requires-clause-sources : goal.is_shipped-requires-clause-sources
is_shipped-requires-clause-sources c = one_sources c.in_ok-numbers.numbers _ (c.deref.ensures.value ∙ c.in_ok-sources.ensures.items) c.in_ok-numbers.ensures.ty c.in_ok-numbers.ensures.abilities

pub is_shipped-requires-clause-proper : goal.is_shipped-requires-clause-proper
is_shipped-requires-clause-proper c = one_proper c.in_ok-numbers.numbers _ (c.deref.ensures.value ∙ c.in_ok-sources.ensures.items) c.in_ok-numbers.ensures.ty
