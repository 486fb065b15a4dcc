use Rattle.std.proofs.Common.{◌≡◌, ◌==◌, drop}
use Rattle.std.specs.List.{position_from}
use Rattle.kl_tools.proofs.locator.at_space.Given as goal

abbrev pub invariant-loop-i : goal.invariant-loop-i
invariant-loop-i l = position_from (λ b. b == 32) l.i (drop l.i l.bytes) ≡ position_from (λ b. b == 32) 0 l.bytes
