use Rattle.kl_forms.proofs.Shapes.{finds_some, finds_none, summed, not_summed}
use Rattle.kl_forms.proofs.primitives.is_sum.Goals as goal

pub returns-in_default : goal.returns-in_default
returns-in_default c = not_summed _ _ c.args.arg c.args.want (finds_none _ _ _ _ c.in_default.is c.in_ok-item.ensures)

pub returns : goal.returns
returns c = summed _ _ _ _ c.args.arg c.args.want _ c.requires.arg_there c.requires.there (finds_some _ _ _ _ _ c.in-Some.is c.in_ok-item.ensures) c.in_ok-holds.ensures
