use Rattle.kl_infer.proofs.Leaving.{asked}
use Rattle.kl_infer.proofs.typing.Typing.value.Goals as goal

pub returns : goal.returns
returns c = asked c.met.result _ _ _ _ c.met.ensures c.in_ok-value.ensures
