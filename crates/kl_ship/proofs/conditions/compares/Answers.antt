use Rattle.kl_ship.proofs.Finding.{too_few, too_many}
use Rattle.kl_ship.proofs.conditions.compares.Goals as goal

pub returns-in_default : goal.returns-in_default
returns-in_default c o = too_few _ o _ c.in_default.len_below

pub returns-in_default-2 : goal.returns-in_default-2
returns-in_default-2 c o = too_many _ o _ c.in_default.len_at_least
