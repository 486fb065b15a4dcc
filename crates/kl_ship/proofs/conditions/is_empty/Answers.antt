use Rattle.kl_ship.proofs.Finding.{not_empty}
use Rattle.kl_ship.proofs.conditions.is_empty.Goals as goal

pub returns-in_default-slice : goal.returns-in_default-slice
returns-in_default-slice c = not_empty _ _ _ _ _ c.in-Make.is c.slice.ensures c.in_default-slice.len_at_least
