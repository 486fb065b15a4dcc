use Rattle.calls_plans.proofs.Reading.{reading_started}
use Rattle.calls_plans.proofs.scans.starts.Goals as goal

pub returns-in-Ok : goal.returns-in-Ok
returns-in-Ok g c = reading_started _ _ _ _ c.requires.can c.requires.room c.in-Ok.ensures
