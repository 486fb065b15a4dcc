use Rattle.kl_engine.proofs.PageLemmas.{page_took, page_failed, page_wanted}
use Rattle.kl_engine.proofs.page.print_page.Goals as goal

pub returns-in-Ok : goal.returns-in-Ok
returns-in-Ok g c = page_took _ c.requires _ _ c.in-Ok.field-0 c.in-Ok.ensures

pub returns-in-Err-Failed : goal.returns-in-Err-Failed
returns-in-Err-Failed g c = page_failed _ c.requires _ _ (rw c.in-Err-Failed.field-0-is at c.in-Err-Failed.ensures)

pub returns-in-Err-NoMemory : goal.returns-in-Err-NoMemory
returns-in-Err-NoMemory g c = page_wanted _ c.requires _ _ (rw c.in-Err-NoMemory.field-0-is at c.in-Err-NoMemory.ensures)
