use Rattle.calls_plans.proofs.Drawing.{next_owned, drawn_stands}
use Rattle.calls_plans.proofs.cursors.gives.Goals as goal

pub returns-clause-owned : goal.returns-clause-owned
returns-clause-owned g c = next_owned _ _ _ _ _ _ c.next.ensures.next c.requires.owned

pub returns-clause-sense : goal.returns-clause-sense
returns-clause-sense g c = drawn_stands _ _ _ _ _ _ _ c.next.ensures.next c.next.ensures.env c.requires.sense
