use Rattle.kl_engine.proofs.PageLemmas.{line_full, page_took, page_stopped}
use Rattle.kl_engine.proofs.page.print_value.Goals as goal

pub returns-in-Ok : goal.returns-in-Ok
returns-in-Ok g c = page_took _ (line_full _) _ _ c.in-Ok.field-0 c.in-Ok.ensures

pub returns-in-Err : goal.returns-in-Err
returns-in-Err g c = rw c.write_fault.ensures (page_stopped _ (line_full _) _ _ c.in-Err.error c.in-Err.ensures)
