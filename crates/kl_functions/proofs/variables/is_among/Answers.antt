use Rattle.std.proofs.Common.{◌∙◌}
use Rattle.kl_functions.proofs.Naming.{any_named}
use Rattle.kl_functions.proofs.variables.is_among.Goals as goal

pub returns : goal.returns
returns c = c.is_one_of.ensures ∙ any_named c.args.name.now c.args.names.now
