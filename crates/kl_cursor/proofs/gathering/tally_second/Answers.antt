use Rattle.kl_cursor.proofs.Gatherings.{tells_second}
use Rattle.kl_cursor.proofs.gathering.tally_second.Goals as goal

pub returns-in-Some-clause-tells : goal.returns-in-Some-clause-tells
returns-in-Some-clause-tells c = tells_second _ _ _ _ c.if-code-eq-MEMBER.true c.in-Some.ensures
