use Rattle.std.proofs.Common.{refl}
use Rattle.kl_ship.proofs.BodyParts.{goes_on, stops_there, test_there, none_there}
use Rattle.kl_ship.proofs.bodies.conditions_take_none.Goals as goal

pub loop-condition-init : goal.loop-condition-init
loop-condition-init c b s = refl

pub loop-condition-preserved : goal.loop-condition-preserved
loop-condition-preserved c b s =
    goes_on c.args.kind b s c.loop-condition.condition-index c.condition-item.result c.args.conditions.now c.is_total.result
    c.loop-condition-test.true c.condition-item.is
    c.is_total.ensures (c.loop-condition.invariant b s) c.is_test.result c.if-not-is_total.false c.is_test.ensures c.if-is_test.false

pub returns-then-not-is_total : goal.returns-then-not-is_total
returns-then-not-is_total c b s =
    stops_there c.args.kind b s c.loop-condition.condition-index c.condition-item.result c.args.conditions.now c.is_total.result
    c.loop-condition-test.true c.condition-item.is
    c.is_total.ensures (c.loop-condition.invariant b s) c.if-not-is_total.true

pub returns-then-is_test : goal.returns-then-is_test
returns-then-is_test c b s =
    test_there c.args.kind b s c.loop-condition.condition-index c.condition-item.result c.args.conditions.now c.is_total.result
    c.loop-condition-test.true c.condition-item.is
    c.is_total.ensures (c.loop-condition.invariant b s) c.is_test.result c.if-not-is_total.false c.is_test.ensures c.if-is_test.true

pub returns : goal.returns
returns c b s = none_there c.args.kind b s c.loop-condition.condition-index c.args.conditions.now c.loop-condition-test.false
    (c.loop-condition.invariant b s)
