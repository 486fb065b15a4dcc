use Rattle.calls_plans.proofs.Drawing.{next_owned}
use Rattle.calls_plans.proofs.cursors.ends.Goals as goal

pub returns : goal.returns
returns g c = next_owned _ _ _ _ _ _ c.next.ensures.next c.requires.owned
