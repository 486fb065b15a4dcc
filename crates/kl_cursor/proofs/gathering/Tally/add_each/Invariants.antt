use Rattle.std.proofs.Common.{◌≡◌, take}
use Rattle.kl_cursor.specs.Gathering.{tally, with_all}
use Rattle.kl_cursor.proofs.gathering.Tally.add_each.Given as goal

abbrev pub invariant-items : goal.invariant-items
invariant-items l = tally l.self ≡ with_all (tally l.initial.self) (take l.item-index l.items)
