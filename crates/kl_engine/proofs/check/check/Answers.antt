use Rattle.kl_engine.specs.declared.top.Purpose.TheVariants as purpose
use Rattle.kl_engine.proofs.DoneLemmas.{checked, unread}
use Rattle.kl_engine.proofs.check.check.Goals as goal

pub returns-in-Ok : goal.returns-in-Ok
returns-in-Ok g c = λ files ds. checked _ _ c.in-Ok.field-0 _ files ds _ _ c.in-Ok.ensures c.print_page.ensures

pub returns : goal.returns
returns g c = λ files ds. unread _ purpose.Check _ c.in-Err.fault files ds _ c.in-Err.ensures
