use Rattle.std.proofs.Common.{◌≡◌, drop}
use Rattle.kl_heads.specs.Machine.{run}
use Rattle.kl_heads.proofs.scan.scan.Given as goal

abbrev pub invariant-loop-at : goal.invariant-loop-at
invariant-loop-at l = record { met : run 256 (drop l.at l.bytes) l.machine ≡ run 256 l.bytes l.fn.machine }
