use Rattle.calls_plans.proofs.Sources.{list_ground}
use Rattle.calls_plans.proofs.shipping.numbers.Goals as goal

pub returns-clause-ty : goal.returns-clause-ty
returns-clause-ty c = list_ground c.in_ok-item.item c.in_ok-item.ensures
