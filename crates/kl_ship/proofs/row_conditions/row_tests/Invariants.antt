use Rattle.std.proofs.Common.{◌≡◌, map}
use Rattle.kl_ship.specs.Delegation.{row_test}
use Rattle.kl_ship.proofs.row_conditions.row_tests.Given as goal

abbrev pub invariant-loop-test : goal.invariant-loop-test
invariant-loop-test l = l.made.items ≡ map row_test l.yielded
