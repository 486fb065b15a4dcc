use Rattle.kl_cursor.proofs.Gatherings.{each_goes, each_ends}
use Rattle.kl_cursor.proofs.gathering.Tally.add_each.Goals as goal

pub items-preserved : goal.items-preserved
items-preserved c = each_goes _ _ _ _ _ _ c.items-test.true c.item-item.is c.items.invariant c.in-Ok.ensures

pub returns : goal.returns
returns c = each_ends _ _ _ _ c.items-test.false c.items.invariant
