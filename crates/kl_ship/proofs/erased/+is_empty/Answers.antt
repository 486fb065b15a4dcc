use Rattle.kl_ship.proofs.Finding.{plans_not_empty}
use Rattle.kl_ship.proofs.erased.+is_empty.Goals as goal

pub returns-in_default-slice : goal.returns-in_default-slice
returns-in_default-slice t c = plans_not_empty _ _ _ _ _ c.in-Make.is c.slice.ensures c.in_default-slice.len_at_least
