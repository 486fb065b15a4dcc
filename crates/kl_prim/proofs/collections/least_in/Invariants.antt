use Rattle.std.proofs.Common.{take}
use Rattle.std.specs.List.{All, Contains}
use Rattle.kl_prim.proofs.CollectionLemmas.{Low}
use Rattle.kl_prim.proofs.collections.least_in.Given as goal

abbrev pub invariant-loop-item : goal.invariant-loop-item
invariant-loop-item l = record {
  there : Contains l.items l.least;
  least : All (Low l.least) (take l.item-index l.items);
}
