use Rattle.std.proofs.Common.{[], Ok}
use Rattle.kl_exchange.specs.Printing.{as_stop}
use Rattle.kl_exchange.proofs.Printed.{whole}
use Rattle.kl_engine.proofs.PutLemmas.{puts_line}
use Rattle.kl_engine.proofs.listing.close.Goals as goal

pub returns-in-Ok : goal.returns-in-Ok
returns-in-Ok g c = λ text first puts. whole _ tt (as_stop c.flush.result) _ first _ _ (puts_line (Ok tt) text _ first _ _ [] _ _ puts c.in-Ok.ensures) c.flush.ensures.wrote
