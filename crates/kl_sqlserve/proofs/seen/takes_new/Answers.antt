use Rattle.std.proofs.Common.{refl}
use Rattle.kl_sqlserve.proofs.Repeated.{seen_more}
use Rattle.kl_sqlserve.proofs.seen.takes_new.Goals as goal

pub returns-clause-seen : goal.returns-clause-seen
returns-clause-seen c = seen_more c.args.value c.args.value _ _ refl c.in_ok-insert.ensures.updates.0
