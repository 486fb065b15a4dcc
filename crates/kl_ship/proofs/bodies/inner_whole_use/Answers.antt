use Rattle.kl_ship.proofs.BodyParts.{inner_whole}
use Rattle.kl_ship.proofs.bodies.inner_whole_use.Goals as goal

pub returns : goal.returns
returns c = inner_whole c.args.join.now _ c.whole_use.ensures
