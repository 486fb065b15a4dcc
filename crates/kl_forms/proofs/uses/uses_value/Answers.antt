use Rattle.kl_forms.proofs.Opening.{instance_type}
use Rattle.kl_forms.proofs.uses.uses_value.Goals as goal

pub returns : goal.returns
returns c = instance_type _ _ _ _ _ _ c.args.scheme.now c.requires.there c.requires.is_value c.in_ok-used.ensures c.in_ok-holds.ensures
