use Rattle.std.proofs.Common.{◌≡◌, ◌++◌, take}
use Rattle.kl_prim.proofs.collections.append_copies.Given as goal

abbrev pub invariant-loop-item : goal.invariant-loop-item
invariant-loop-item l = l.into.items ≡ l.initial.into.items ++ take l.item-index l.items
