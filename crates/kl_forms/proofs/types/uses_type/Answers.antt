use Rattle.std.proofs.Common.{ap}
use Rattle.kl_type.specs.Ground.{ground_of}
use Rattle.kl_forms.proofs.Opening.{gives_type}
use Rattle.kl_forms.proofs.types.uses_type.Goals as goal

pub returns : goal.returns
returns c = gives_type _ _ _ _ _ _ _ _ (ap ground_of c.in_ok-t.ensures) c.requires.there c.in_ok-this.ensures c.in_ok-holds.ensures
