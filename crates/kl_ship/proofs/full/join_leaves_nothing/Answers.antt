use Rattle.kl_ship.proofs.FullParts.{if_ok, inner_full}
use Rattle.kl_ship.proofs.full.join_leaves_nothing.Goals as goal

pub returns : goal.returns
returns c = if_ok c.scan_leaves_nothing.result (inner_full c.args.sources.now c.args.join.now) c.scan_leaves_nothing.ensures
