use Rattle.kl_engine.proofs.ListLemmas.{driver_stops}
use Rattle.kl_engine.proofs.listing.stopped.Goals as goal

pub returns-in-Ok-flush-clause-stops : goal.returns-in-Ok-flush-clause-stops
returns-in-Ok-flush-clause-stops g c =
    λ given first puts. driver_stops given _ c.in-Driver.source c.in-Driver.error _ c.flush-in-Driver.result first _ _ _ _ c.in-Driver.is c.driver_fault.ensures puts c.flush-in-Driver.ensures.wrote c.flush-in-Driver.ensures.empty
