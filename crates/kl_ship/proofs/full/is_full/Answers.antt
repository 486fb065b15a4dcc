use Rattle.kl_ship.specs.Bodies.{body_view}
use Rattle.kl_ship.proofs.Deciding.{on_ok, with_loop, by_columns, without_columns}
use Rattle.kl_ship.proofs.full.is_full.Goals as goal

pub returns-then-has_loop : goal.returns-then-has_loop
returns-then-has_loop c =
    with_loop c.args.source.now c.args.kind (body_view c.args.body.now) c.args.scan.now _ _ _ c.is_of.ensures c.if-not-is_of.false
    c.is_same.ensures c.if-not-is_same.false c.has_loop.ensures c.if-has_loop.true

pub returns : goal.returns
returns c =
    on_ok c.uses_shown.result
    (λ u d. by_columns c.args.source.now c.args.kind
    (body_view c.args.body.now) c.args.scan.now _ _ _ _ u c.is_of.ensures c.if-not-is_of.false c.has_tests.ensures c.if-has_tests.false
    c.is_same.ensures c.if-not-is_same.false c.has_loop.ensures c.if-has_loop.false c.if-not-source.false d)
    c.uses_shown.ensures

pub returns-then-not-source : goal.returns-then-not-source
returns-then-not-source c =
    without_columns c.args.source.now c.args.kind (body_view c.args.body.now) c.args.scan.now _ _ c.has_tests.ensures c.if-has_tests.false
    c.has_loop.ensures c.if-has_loop.false c.if-not-source.true
