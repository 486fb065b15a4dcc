use Rattle.kl_ask.proofs.Equal.{same_exactly}
use Rattle.kl_ask.proofs.asked.ask_laws.Goals as goal

pub returns : goal.returns
returns c = same_exactly
