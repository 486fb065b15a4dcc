use Rattle.std.proofs.Common.{◌≡◌, drop}
use Rattle.kl_sqlserve.specs.Fitting.{suit_tests, type_at}
use Rattle.kl_sqlserve.proofs.fitting.suit_tests.Given as goal

abbrev pub invariant-loop-test : goal.invariant-loop-test
invariant-loop-test l = suit_tests (type_at l.sources l.tables) (drop l.test-index l.tests) ≡ suit_tests (type_at l.sources l.tables) l.tests
