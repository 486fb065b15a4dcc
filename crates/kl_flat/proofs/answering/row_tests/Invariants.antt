use Rattle.std.proofs.Common.{take}
use Rattle.kl_flat.specs.RowTests.{SaySame}
use Rattle.kl_flat.proofs.answering.row_tests.Given as goal

abbrev pub invariant-loop-test : goal.invariant-loop-test
invariant-loop-test l = SaySame l.table (take l.test-index l.tests) l.found.items
