use Rattle.std.proofs.Common.{◌≡◌, take}
use Rattle.kl_ask.proofs.asking.dup_tests.Given as goal

abbrev pub invariant-loop-test : goal.invariant-loop-test
invariant-loop-test l = l.copies.items ≡ take l.test-index l.tests
