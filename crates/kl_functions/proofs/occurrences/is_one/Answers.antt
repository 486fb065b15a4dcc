use Rattle.kl_functions.proofs.Occurring.{one_is}
use Rattle.kl_functions.proofs.occurrences.is_one.Goals as goal

pub returns : goal.returns
returns c = one_is c.args.args.now
