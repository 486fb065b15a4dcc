use Rattle.cases.proofs.Staying.{stays_open}
use Rattle.cases.proofs.statement.pull_some.Goals as goal

pub returns-in-Ok-true : goal.returns-in-Ok-true
returns-in-Ok-true g c = stays_open _ _ _ _ c.in-Ok-true.field-0 _ _ c.requires.open c.in-Ok-true.ensures

pub returns-in-Ok-false : goal.returns-in-Ok-false
returns-in-Ok-false g c = stays_open _ _ _ _ c.in-Ok-false.field-0 _ _ c.requires.open c.in-Ok-false.ensures
