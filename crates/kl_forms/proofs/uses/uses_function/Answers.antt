use Rattle.kl_forms.proofs.Opening.{instance_call}
use Rattle.kl_forms.proofs.uses.uses_function.Goals as goal

pub returns : goal.returns
returns c = instance_call _ _ _ _ _ _ c.args.arg c.args.want _ c.args.scheme.now c.requires.arg_there c.requires.there c.requires.is_function c.in_ok-used.ensures c.in_ok-call.ensures c.in_ok-holds.ensures
