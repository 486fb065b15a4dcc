use Rattle.std.proofs.Common.{◌≡◌, ◌++◌, drop}
use Rattle.kl_tools.specs.Explained.{more_tests}
use Rattle.kl_tools.proofs.explaining.put_more_tests.Given as goal

abbrev pub invariant-tests : goal.invariant-tests
invariant-tests l = l.out.items ++ more_tests (drop l.test-index l.tests) ≡ l.fn.out.items ++ more_tests l.tests
