use Rattle.calls_plans.proofs.Sources.{list_ground}
use Rattle.calls_plans.proofs.scans.list_type.Goals as goal

pub returns : goal.returns
returns c = list_ground c.in_ok-item.item c.in_ok-item.ensures
