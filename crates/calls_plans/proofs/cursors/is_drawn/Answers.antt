use Rattle.calls_plans.proofs.Drawing.{fresh_owned, fresh_stands}
use Rattle.calls_plans.proofs.cursors.is_drawn.Goals as goal

pub gives-first-requires-clause-owned : goal.gives-first-requires-clause-owned
gives-first-requires-clause-owned g c = fresh_owned _ _ _ c.in_ok-cursor.ensures.0

pub gives-first-requires-clause-sense : goal.gives-first-requires-clause-sense
gives-first-requires-clause-sense g c = fresh_stands _ _ _ _ c.in_ok-cursor.ensures.0 c.in_ok-cursor.ensures.1 (c.requires.types _) c.requires.ready
