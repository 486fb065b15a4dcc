use Rattle.kl_ship.proofs.Sources.{stays_plain}
use Rattle.kl_ship.proofs.shipping.stays.Goals as goal

pub returns-then-may_stay : goal.returns-then-may_stay
returns-then-may_stay c = stays_plain _ _ _ _ c.may_stay.ensures c.if-may_stay.true c.reads.ensures
