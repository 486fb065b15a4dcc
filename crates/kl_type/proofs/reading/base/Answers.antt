use Rattle.kl_type.proofs.Steps.{no_base}
use Rattle.kl_type.proofs.reading.base.Goals as goal

pub returns-in-None : goal.returns-in-None
returns-in-None c = no_base c.args.tokens.now c.in-None.ensures
