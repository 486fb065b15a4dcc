use Rattle.kl_scope.specs.Breaches.{is_marked}
use Rattle.kl_engine.specs.declared.top.Purpose.TheVariants as purpose
use Rattle.kl_engine.proofs.DoneLemmas.{done_program, unread}
use Rattle.kl_engine.proofs.types.types.Goals as goal

pub returns-in-Ok : goal.returns-in-Ok
returns-in-Ok g c = λ files ds. done_program _ purpose.Types _ c.in-Ok.scoped _ files ds ds _ _ c.in-Ok.ensures (c.list_types.ensures (is_marked c.in-Ok.scoped) files ds)

pub returns-in-Err : goal.returns-in-Err
returns-in-Err g c = λ files ds. unread _ purpose.Types _ c.in-Err.fault files ds _ c.in-Err.ensures
