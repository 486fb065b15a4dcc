use Rattle.std.proofs.Common.{ap, ◌∙◌}
use Rattle.kl_shape.specs.Shapes.{fits}
use Rattle.kl_shape.proofs.Fills.{is_filled}
use Rattle.kl_shape.proofs.filling.filled.Goals as goal

pub returns-clause-fits : goal.returns-clause-fits
returns-clause-fits c = ap (fits c.args.shape.now) c.in_ok-ty.ensures ∙ is_filled c.args.shape.now c.requires
