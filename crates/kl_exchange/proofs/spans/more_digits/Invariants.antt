use Rattle.std.proofs.Common.{◌≡◌, ◌≤◌, ◌-◌, length, take}
use Rattle.kl_exchange.specs.Machine.{run, more}
use Rattle.kl_exchange.specs.declared.machine.Phase.TheVariants as phase
use Rattle.kl_exchange.proofs.Runs.{at}
use Rattle.kl_exchange.proofs.spans.more_digits.Given as goal

abbrev pub invariant-digits : goal.invariant-digits
invariant-digits l = record {
  within : l.at ≤ length l.bytes;
  met : run 256 (take l.at l.bytes) l.fn.machine ≡ more (at l.fn.machine.stack (phase.Digits l.negative l.magnitude));
  same : l.machine ≡ l.fn.machine;
}

abbrev pub decreases-digits : goal.decreases-digits
decreases-digits l = length l.bytes - l.at
