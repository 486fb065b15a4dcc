use Rattle.kl_ship.proofs.BodyParts.{inner_not_total, inner_tests, inner_goes}
use Rattle.kl_ship.proofs.bodies.inner_takes_none.Goals as goal

pub returns-then-not-is_total : goal.returns-then-not-is_total
returns-then-not-is_total c = inner_not_total c.args.join.now _ c.in-Some.is c.args.kind _ c.is_total.ensures c.if-not-is_total.true

pub returns-then-is_constant : goal.returns-then-is_constant
returns-then-is_constant c =
    inner_tests c.args.join.now _ c.in-Some.is c.args.kind _ _ _ c.is_same.ensures c.if-not-is_same.false c.is_total.ensures
    c.if-not-is_total.false c.is_constant.ensures
    c.if-is_constant.true

pub returns-else-is_constant : goal.returns-else-is_constant
returns-else-is_constant c =
    inner_goes c.args.join.now _ c.in-Some.is c.args.kind _ _ _ _ c.is_same.ensures c.if-not-is_same.false c.is_total.ensures
    c.if-not-is_total.false c.is_constant.ensures
    c.if-is_constant.false c.takes_none.ensures
