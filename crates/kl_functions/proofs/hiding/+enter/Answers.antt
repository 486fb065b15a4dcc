use Rattle.kl_functions.proofs.Naming.{record_entered}
use Rattle.kl_functions.proofs.hiding.+enter.Goals as goal

pub enter-returns-in_ok-enter_all-in-Rec : goal.enter-returns-in_ok-enter_all-in-Rec
enter-returns-in_ok-enter_all-in-Rec t c = record_entered c.enter_tail.result _ _ _ _ _ _ _ c.in-Rec.is c.slice.ensures c.in_ok-enter_all-in-Rec.ensures c.enter_tail.ensures
