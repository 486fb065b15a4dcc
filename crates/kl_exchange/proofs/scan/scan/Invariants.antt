use Rattle.std.proofs.Common.{◌≡◌, ◌≤◌, ◌-◌, length, drop}
use Rattle.kl_exchange.specs.Machine.{IsSound, run}
use Rattle.kl_exchange.proofs.scan.scan.Given as goal

abbrev pub invariant-bytes : goal.invariant-bytes
invariant-bytes l = record {
  within : l.at ≤ length l.bytes;
  sound : IsSound 256 l.machine.stack l.machine.phase;
  met : run 256 (drop l.at l.bytes) l.machine ≡ run 256 l.bytes l.fn.machine;
}

abbrev pub decreases-bytes : goal.decreases-bytes
decreases-bytes l = length l.bytes - l.at
