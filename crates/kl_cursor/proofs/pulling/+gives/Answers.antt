use Rattle.kl_cursor.proofs.PullCode.{make_gives}
use Rattle.kl_cursor.proofs.pulling.+gives.Goals as goal

pub returns-in-Make : goal.returns-in-Make
returns-in-Make t c = make_gives _ _ _ _ c.in-Make.is c.len.ensures
