use Rattle.kl_ship.specs.Bodies.{body_view}
use Rattle.kl_ship.proofs.FullParts.{if_ok, at_scan}
use Rattle.kl_ship.proofs.full.+leaves_nothing.Goals as goal

pub returns-in-Scan : goal.returns-in-Scan
returns-in-Scan t c =
    if_ok c.scan_leaves_nothing.result (at_scan c.args.sources.now c.args.kind (body_view c.args.body.now) _ _ c.in-Scan.is)
    c.scan_leaves_nothing.ensures
