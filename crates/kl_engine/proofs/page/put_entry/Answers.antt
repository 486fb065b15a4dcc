use Rattle.kl_engine.proofs.PutLemmas.{puts_line, puts_stopped}
use Rattle.kl_engine.proofs.page.put_entry.Goals as goal

pub returns-in-Ok : goal.returns-in-Ok
returns-in-Ok g c = puts_line c.put.result _ _ _ _ _ _ _ _ c.in-Ok.ensures.prints c.put.ensures

pub returns-in-Err : goal.returns-in-Err
returns-in-Err g c = puts_stopped c.in-Err.error _ _ _ _ _ _ c.in-Err.ensures.prints
