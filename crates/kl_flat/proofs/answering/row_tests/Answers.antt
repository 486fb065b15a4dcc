use Rattle.std.proofs.Common.{refl, take}
use Rattle.kl_flat.proofs.Tables.{say_more}
use Rattle.kl_flat.proofs.answering.row_tests.Goals as goal

pub loop-test-preserved : goal.loop-test-preserved
loop-test-preserved c =
    say_more c.args.table.now (take c.loop-test.test-index c.args.tests.now) c.args.tests.now c.loop-test.test-index c.test-item.result c.loop-test.found.items _ c.in-Some.made refl c.loop-test-test.true c.test-item.is
    c.in_ok-push.ensures.items c.loop-test.invariant c.in-Some.ensures
