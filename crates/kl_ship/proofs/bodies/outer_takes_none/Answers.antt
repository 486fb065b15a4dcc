use Rattle.kl_ship.proofs.BodyParts.{outer_other, outer_same}
use Rattle.kl_ship.proofs.bodies.outer_takes_none.Goals as goal

pub returns-then-not-is_same : goal.returns-then-not-is_same
returns-then-not-is_same c = outer_other c.args.join.now c.args.kind _ c.is_same.ensures c.if-not-is_same.true

pub returns : goal.returns
returns c = outer_same c.args.join.now c.args.kind _ _ _ c.is_same.ensures c.if-not-is_same.false c.slice.ensures
    c.conditions_take_none.ensures
