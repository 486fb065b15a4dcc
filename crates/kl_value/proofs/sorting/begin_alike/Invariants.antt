use Rattle.std.proofs.Common.{take}
use Rattle.std.specs.List.{All}
use Rattle.std.specs.Option.{option_copied}
use Rattle.kl_value.specs.Keys.{BeginsWith}
use Rattle.kl_value.proofs.sorting.begin_alike.Given as goal

abbrev pub invariant-loop-item : goal.invariant-loop-item
invariant-loop-item l = All (BeginsWith (option_copied l.first) (option_copied l.second)) (take l.item-index l.items)
