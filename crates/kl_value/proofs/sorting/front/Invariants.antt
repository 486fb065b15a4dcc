use Rattle.std.proofs.Common.{◌≡◌, ◌+◌, ◌-◌, ◌*◌, ◌^◌, ◌<◌, drop}
use Rattle.kl_value.specs.Keys.{front}
use Rattle.kl_value.proofs.sorting.front.Given as goal

abbrev pub invariant-loop-i : goal.invariant-loop-i
invariant-loop-i l = record {
  below : l.number < 256 ^ l.i;
  so_far : l.number * 256 ^ (l.count - l.i) + front (l.count - l.i) (drop l.i l.bytes) ≡ front l.count l.bytes;
}
