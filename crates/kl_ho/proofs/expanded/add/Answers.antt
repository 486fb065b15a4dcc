use Rattle.std.proofs.Common.{refl}
use Rattle.kl_ho.proofs.expanded.add.Goals as goal

pub returns-in-Some : goal.returns-in-Some
returns-in-Some c = rw c.in-Some.is (refl, refl)

pub returns-in-None : goal.returns-in-None
returns-in-None c = rw c.in-None.is c.append.ensures
