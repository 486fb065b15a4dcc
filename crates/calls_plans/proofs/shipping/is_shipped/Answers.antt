use Rattle.std.proofs.Common.{arith}
use Rattle.kl_ship.proofs.Amounts.{scans_most}
use Rattle.calls_plans.proofs.shipping.is_shipped.Goals as goal

pub count_scans-requires : goal.count_scans-requires
count_scans-requires c = let most = scans_most _ c.args.sources.now _ _ c.in_ok-plan.ensures.ships in omega (arith, most, c.requires.small)
