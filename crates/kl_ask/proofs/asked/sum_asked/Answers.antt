use Rattle.std.proofs.Common.{arith}
use Rattle.kl_ask.proofs.Kept.{none_left}
use Rattle.kl_ask.proofs.asked.sum_asked.Goals as goal

pub returns : goal.returns
returns c = omega (arith, c.loop-kept.invariant.total, c.loop-kept.invariant.fits, none_left c.args.asked.now c.loop-kept.kept-index (omega (arith, c.loop-kept-test.false)))
