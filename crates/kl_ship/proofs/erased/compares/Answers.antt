use Rattle.kl_ship.proofs.Finding.{plans_too_few, plans_too_many}
use Rattle.kl_ship.proofs.erased.compares.Goals as goal

pub returns-in_default : goal.returns-in_default
returns-in_default c o = plans_too_few _ o _ c.in_default.len_below

pub returns-in_default-2 : goal.returns-in_default-2
returns-in_default-2 c o = plans_too_many _ o _ c.in_default.len_at_least
