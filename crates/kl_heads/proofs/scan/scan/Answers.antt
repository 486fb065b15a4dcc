use Rattle.std.proofs.Common.{◌<◌, length, arith}
use Rattle.kl_heads.proofs.Scanning.{met_next, met_end, met_none, met_bad, met_deep}
use Rattle.kl_heads.proofs.scan.scan.Goals as goal

pub loop-at-preserved : goal.loop-at-preserved
loop-at-preserved c = let e = rw c.in-Ok-None.field-0-is at c.in-Ok-None.ensures in record { met = met_next c.args.machine.now c.loop-at.machine c.args.bytes.now c.loop-at.at c.loop-at-test.true c.loop-at.invariant.met c.advance.new.machine e }

pub returns-in-Ok-Some : goal.returns-in-Ok-Some
returns-in-Ok-Some c = let e = rw c.in-Ok-Some.field-0-is at c.in-Ok-Some.ensures in let within : c.loop-at.at < length c.args.bytes.now = c.loop-at-test.true in (omega arith, met_end c.args.machine.now c.loop-at.machine c.args.bytes.now c.loop-at.at c.loop-at-test.true c.loop-at.invariant.met c.in-Ok-Some.ty e.0, e.1)

pub returns-in-Err-NoHead : goal.returns-in-Err-NoHead
returns-in-Err-NoHead c = let e = rw c.in-Err-NoHead.field-0-is at c.in-Err-NoHead.ensures in met_none c.args.machine.now c.loop-at.machine c.args.bytes.now c.loop-at.at c.loop-at-test.true c.loop-at.invariant.met e

pub returns-in-Err-Bad : goal.returns-in-Err-Bad
returns-in-Err-Bad c = let e = rw c.in-Err-Bad.field-0-is at c.in-Err-Bad.ensures in (c.loop-at-test.true, met_bad c.args.machine.now c.loop-at.machine c.args.bytes.now c.loop-at.at c.loop-at-test.true c.loop-at.invariant.met e)

pub returns-in-Err-TooDeep : goal.returns-in-Err-TooDeep
returns-in-Err-TooDeep c = let e = rw c.in-Err-TooDeep.field-0-is at c.in-Err-TooDeep.ensures in (c.loop-at-test.true, met_deep c.args.machine.now c.loop-at.machine c.args.bytes.now c.loop-at.at c.loop-at-test.true c.loop-at.invariant.met e)
