use Rattle.std.proofs.Common.{refl}
use Rattle.kl_core.specs.Trees.{view}
use Rattle.kl_rules.proofs.Nearest.{nearest_whole}
use Rattle.kl_rules.proofs.nearness.nearest.Goals as goal

pub returns : goal.returns
returns c = nearest_whole (view c.args.term.now) c.nearest_from.result (c.nearest_from.ensures 0 refl)
