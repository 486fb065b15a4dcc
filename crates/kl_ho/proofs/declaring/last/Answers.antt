use Rattle.std.proofs.Common.{refl}
use Rattle.kl_ho.specs.Growing.{highers_of}
use Rattle.kl_ho.proofs.Reaching.{body_made}
use Rattle.kl_ho.proofs.declaring.last.Goals as goal

pub returns : goal.returns
returns c = body_made c.args.t.now.base.now (highers_of c.args.t.now) c.args.e.now c.expand.result _ _ refl c.expand.ensures.gives
