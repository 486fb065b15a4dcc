use Rattle.std.proofs.Common.{ap, ◌∙◌}
use Rattle.kl_functions.specs.Firsts.{is_one}
use Rattle.kl_functions.proofs.Beginning.{first_function_is}
use Rattle.kl_functions.proofs.first.is_first_function.Goals as goal

pub returns : goal.returns
returns c = c.is_one.ensures ∙ ap is_one c.first_arity.ensures ∙ first_function_is c.args.sources.now c.args.name.now
