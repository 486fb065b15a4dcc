use Rattle.kl_infer.proofs.Leaving.{asked}
use Rattle.kl_infer.proofs.typing.Typing.applied.Goals as goal

pub returns : goal.returns
returns c = asked c.met.result _ _ _ _ c.met.ensures c.in_ok-applied.ensures
