use Rattle.std.proofs.Common.{◌≡◌, ◌*◌, ◌^◌, take, pos, ◌+ℤ◌, neg_ℤ, ◌≤ℤ◌, fold}
use Rattle.kl_prim.proofs.ItemLemmas.{int_at}
use Rattle.kl_prim.proofs.numbers.sum.Given as goal

abbrev pub invariant-loop-item : goal.invariant-loop-item
invariant-loop-item l = record {
  so_far : l.total ≡ fold (λ t v. t +ℤ int_at v) (pos 0) (take l.item-index l.items);
  low : neg_ℤ (pos (2 ^ 63 * l.item-index)) ≤ℤ l.total;
  high : l.total ≤ℤ pos (2 ^ 63 * l.item-index);
}
