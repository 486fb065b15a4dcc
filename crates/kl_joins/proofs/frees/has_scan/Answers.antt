use Rattle.kl_joins.proofs.Reading.{none_is}
use Rattle.kl_joins.proofs.frees.has_scan.Goals as goal

pub returns : goal.returns
returns c = none_is _ _ c.reads.ensures
