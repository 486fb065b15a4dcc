use Rattle.kl_cursor.proofs.Gatherings.{appended}
use Rattle.kl_cursor.proofs.gathering.Gathering.add_all.Goals as goal

pub returns-in-Ok : goal.returns-in-Ok
returns-in-Ok c = appended _ _ _ _ c.in-Items.is c.in-Ok.ensures.items
