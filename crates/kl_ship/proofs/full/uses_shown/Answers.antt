use Rattle.kl_ship.specs.Bodies.{body_view}
use Rattle.kl_ship.proofs.Deciding.{shown_sql, shown_none, no_memory}
use Rattle.kl_ship.proofs.full.uses_shown.Goals as goal

pub returns-in-Ok : goal.returns-in-Ok
returns-in-Ok c =
    shown_sql (body_view c.args.body.now) c.args.ask.now _ _ _ _ c.uses_columns.result c.in-Sql.is c.slice-in-Sql.ensures
    c.in-Ok.ensures.reads c.in-Ok.ensures.only c.slice-in-Ok.ensures c.uses_columns.ensures

pub returns-in-Err-Bad : goal.returns-in-Err-Bad
returns-in-Err-Bad c =
    shown_none (body_view c.args.body.now) c.args.ask.now _ _ c.in-Sql.is c.slice-in-Sql.ensures
    (λ p h. no_memory _ _ c.in-Err-Bad.field-0-is (c.in-Err-Bad.ensures.only p h))
