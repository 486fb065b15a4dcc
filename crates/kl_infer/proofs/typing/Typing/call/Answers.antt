use Rattle.kl_infer.proofs.Leaving.{asked_call}
use Rattle.kl_infer.proofs.typing.Typing.call.Goals as goal

pub returns : goal.returns
returns c = asked_call c.met.result _ _ _ _ c.args.known.now c.args.name.now _ _ c.met.ensures c.stands_for.ensures.means c.in_ok-can_call.ensures
