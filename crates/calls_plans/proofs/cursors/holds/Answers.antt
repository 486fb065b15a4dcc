use Rattle.calls_plans.proofs.Drawing.{drawn_held_stands, held_owned}
use Rattle.calls_plans.proofs.cursors.holds.Goals as goal

pub returns-clause-owned : goal.returns-clause-owned
returns-clause-owned g c = held_owned _ _ _ _ _ _ c.next_held.ensures.next c.requires.owned

pub returns-clause-sense : goal.returns-clause-sense
returns-clause-sense g c = drawn_held_stands _ _ _ _ _ _ _ c.next_held.ensures.next c.next_held.ensures.env c.requires.sense
