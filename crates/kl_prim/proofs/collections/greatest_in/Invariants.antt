use Rattle.std.proofs.Common.{take}
use Rattle.std.specs.List.{All, Contains}
use Rattle.kl_prim.proofs.CollectionLemmas.{High}
use Rattle.kl_prim.proofs.collections.greatest_in.Given as goal

abbrev pub invariant-loop-item : goal.invariant-loop-item
invariant-loop-item l = record {
  there : Contains l.items l.greatest;
  greatest : All (High l.greatest) (take l.item-index l.items);
}
