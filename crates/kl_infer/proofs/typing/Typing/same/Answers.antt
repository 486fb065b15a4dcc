use Rattle.kl_infer.proofs.Leaving.{same_so}
use Rattle.kl_infer.proofs.typing.Typing.same.Goals as goal

pub returns : goal.returns
returns c = same_so c.met.result _ _ _ _ _ c.met.ensures c.requires.first_there c.in_ok-merge.ensures
