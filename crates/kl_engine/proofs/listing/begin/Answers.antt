use Rattle.kl_engine.proofs.PutLemmas.{flush_puts}
use Rattle.kl_engine.proofs.listing.begin.Goals as goal

pub returns-in-Ok : goal.returns-in-Ok
returns-in-Ok g c = flush_puts c.flush.result _ _ _ _ _ _ _ (rw c.requires at c.in-Ok.ensures) c.flush.ensures.wrote c.flush.ensures.empty
