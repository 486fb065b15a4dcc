use Rattle.std.proofs.Common.{refl}
use Rattle.kl_scans.proofs.stops.stop_of.Goals as goal

pub returns-in-NoMemory : goal.returns-in-NoMemory
returns-in-NoMemory c = tt

pub returns-in-Ok : goal.returns-in-Ok
returns-in-Ok c = (c.in-Ok.ensures, refl, c.in_default.not-NoMemory)

pub returns-in-Err : goal.returns-in-Err
returns-in-Err c = tt
