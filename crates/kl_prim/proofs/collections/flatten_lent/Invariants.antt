use Rattle.std.proofs.Common.{◌≡◌, take}
use Rattle.std.specs.List.{flat_map}
use Rattle.kl_prim.specs.Meaning.{listed}
use Rattle.kl_prim.proofs.collections.flatten_lent.Given as goal

abbrev pub invariant-loop-item : goal.invariant-loop-item
invariant-loop-item l = l.all.items ≡ flat_map (listed l.kind) (take l.item-index l.items)
