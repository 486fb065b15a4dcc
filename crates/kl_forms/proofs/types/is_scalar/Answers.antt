use Rattle.kl_forms.proofs.Shapes.{scalar_check}
use Rattle.kl_forms.proofs.types.is_scalar.Goals as goal

pub returns : goal.returns
returns c = scalar_check _ _ _ _ _ _ c.type_of-t.ensures c.in_ok-holds.ensures
