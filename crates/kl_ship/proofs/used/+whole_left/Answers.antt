use Rattle.kl_ship.proofs.Marked.{whole_here, whole_later, whole_last}
use Rattle.kl_ship.proofs.used.+whole_left.Goals as goal

pub returns-then-whole_use : goal.returns-then-whole_use
returns-then-whole_use t c =
    whole_here c.args.kind c.args.rows _ _ _ _ _ _ _ _ _ c.in-If.is c.get.ensures c.get-in-If.ensures c.is_front.ensures c.if-is_front.true c.get-then-is_front.ensures c.is_test.ensures c.if-is_test.false
    c.args.at _ _ c.get-then-is_front-2.ensures c.whole_use.ensures c.if-whole_use.true

pub returns-then-whole_left : goal.returns-then-whole_left
returns-then-whole_left t c =
    whole_later c.args.kind c.args.rows _ _ _ _ _ _ _ _ _ c.in-If.is c.get.ensures c.get-in-If.ensures c.is_front.ensures c.if-is_front.true c.get-then-is_front.ensures c.is_test.ensures c.if-is_test.false
    c.args.at _ _ c.get-then-is_front-2.ensures c.whole_use.ensures c.if-whole_use.false
    _ _ c.get-then-is_front-3.ensures c.whole_left-then-is_front.ensures c.if-whole_left.true

pub returns-then-is_front : goal.returns-then-is_front
returns-then-is_front t c =
    whole_last c.args.kind c.args.rows _ _ _ _ _ _ _ _ _ c.in-If.is c.get.ensures c.get-in-If.ensures c.is_front.ensures c.if-is_front.true c.get-then-is_front.ensures c.is_test.ensures c.if-is_test.false
    c.args.at _ _ c.get-then-is_front-2.ensures c.whole_use.ensures c.if-whole_use.false
    _ _ _ _ c.get-then-is_front-3.ensures c.whole_left-then-is_front.ensures c.if-whole_left.false c.get-then-is_front-4.ensures c.whole_use-then-is_front.ensures
