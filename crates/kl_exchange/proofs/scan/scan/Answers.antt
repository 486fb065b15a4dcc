use Rattle.std.proofs.Common.{◌+◌, ◌<◌, length, arith}
use Rattle.kl_exchange.proofs.Scanning.{sound_there, met_there, sound_behind, met_behind, met_end, met_bad, met_deep}
use Rattle.kl_exchange.proofs.scan.scan.Goals as goal

pub advance-requires : goal.advance-requires
advance-requires c = sound_there _ _ _ c.args.bytes.now c.bytes.at c.in_ok-count.count c.bytes.invariant.sound c.bytes.invariant.met c.in_ok-count.ensures.met

pub bytes-preserved-then-count-gt0 : goal.bytes-preserved-then-count-gt0
bytes-preserved-then-count-gt0 c = record {
  within = omega (arith, c.in_ok-count.ensures.within, c.bytes-test.true);
  sound = sound_there _ _ _ c.args.bytes.now c.bytes.at c.in_ok-count.count c.bytes.invariant.sound c.bytes.invariant.met c.in_ok-count.ensures.met;
  met = met_there _ _ _ c.args.bytes.now c.bytes.at c.in_ok-count.count c.bytes.invariant.sound c.bytes.invariant.met c.in_ok-count.ensures.met;
}

pub bytes-preserved : goal.bytes-preserved
bytes-preserved c =
    let within : c.bytes.at + c.in_ok-count.count < length c.args.bytes.now = omega (arith, c.in_ok-count.ensures.within, c.if-count-gt0.false, c.bytes-test.true) in
    let e = rw c.in-Ok-None.field-0-is at c.in-Ok-None.ensures in
    record {
      within = omega arith;
      sound = sound_behind _ _ _ c.args.bytes.now c.bytes.at c.in_ok-count.count c.bytes.invariant.sound c.bytes.invariant.met c.in_ok-count.ensures.met within c.advance.new.machine e;
      met = met_behind _ _ _ c.args.bytes.now c.bytes.at c.in_ok-count.count c.bytes.invariant.sound c.bytes.invariant.met c.in_ok-count.ensures.met within c.advance.new.machine e;
    }

pub returns-in-Ok-Some : goal.returns-in-Ok-Some
returns-in-Ok-Some c =
    let within : c.bytes.at + c.in_ok-count.count < length c.args.bytes.now = omega (arith, c.in_ok-count.ensures.within, c.if-count-gt0.false, c.bytes-test.true) in
    let e = rw c.in-Ok-Some.field-0-is at c.in-Ok-Some.ensures in
    (omega arith, met_end _ _ _ c.args.bytes.now c.bytes.at c.in_ok-count.count c.bytes.invariant.sound c.bytes.invariant.met c.in_ok-count.ensures.met within c.in-Ok-Some.value e.0, e.1)

pub returns-in-Err-Bad : goal.returns-in-Err-Bad
returns-in-Err-Bad c =
    let within : c.bytes.at + c.in_ok-count.count < length c.args.bytes.now = omega (arith, c.in_ok-count.ensures.within, c.if-count-gt0.false, c.bytes-test.true) in
    let e = rw c.in-Err-Bad.field-0-is at c.in-Err-Bad.ensures in
    (within, met_bad _ _ _ c.args.bytes.now c.bytes.at c.in_ok-count.count c.bytes.invariant.sound c.bytes.invariant.met c.in_ok-count.ensures.met within e)

pub returns-in-Err-TooDeep : goal.returns-in-Err-TooDeep
returns-in-Err-TooDeep c =
    let within : c.bytes.at + c.in_ok-count.count < length c.args.bytes.now = omega (arith, c.in_ok-count.ensures.within, c.if-count-gt0.false, c.bytes-test.true) in
    let e = rw c.in-Err-TooDeep.field-0-is at c.in-Err-TooDeep.ensures in
    (within, met_deep _ _ _ c.args.bytes.now c.bytes.at c.in_ok-count.count c.bytes.invariant.sound c.bytes.invariant.met c.in_ok-count.ensures.met within e)
