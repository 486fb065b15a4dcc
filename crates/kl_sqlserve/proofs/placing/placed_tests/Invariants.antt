use Rattle.std.proofs.Common.{◌≡◌, map, take}
use Rattle.kl_sqlserve.specs.Placing.{placed_test}
use Rattle.kl_sqlserve.proofs.placing.placed_tests.Given as goal

abbrev pub invariant-loop-test : goal.invariant-loop-test
invariant-loop-test l = l.placed.items ≡ map (placed_test l.sides) (take l.test-index l.tests)
