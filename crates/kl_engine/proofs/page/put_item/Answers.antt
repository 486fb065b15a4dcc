use Rattle.kl_engine.proofs.PutLemmas.{puts_line, puts_stopped}
use Rattle.kl_engine.proofs.page.put_item.Goals as goal

pub returns-in-Ok : goal.returns-in-Ok
returns-in-Ok g c = puts_line c.print.result _ _ _ _ _ _ _ _ (rw c.separator.ensures at c.in-Ok.ensures) c.print.ensures.prints

pub returns-in-Err : goal.returns-in-Err
returns-in-Err g c = puts_stopped c.in-Err.error _ _ _ _ _ _ (rw c.separator.ensures at c.in-Err.ensures)
