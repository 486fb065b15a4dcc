use Rattle.kl_infer.proofs.Leaving.{gets_found}
use Rattle.kl_infer.proofs.typing.Typing.rest.Goals as goal

pub returns : goal.returns
returns c = gets_found c.found.result _ _ _ _ c.found.ensures c.in_ok-rest_of.ensures
