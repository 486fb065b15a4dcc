use Rattle.kl_engine.proofs.FaultLemmas.{wrote_none, wrote_more, wrote_all, wrote_part}
use Rattle.kl_engine.proofs.stats.write_starts.Goals as goal

pub scans-init : goal.scans-init
scans-init g c = wrote_none _ _ _

pub scans-preserved : goal.scans-preserved
scans-preserved g c = wrote_more _ _ _ _ _ _ _ c.scans-test.true c.scans.invariant c.in-Ok.ensures

pub returns : goal.returns
returns g c = wrote_all _ _ _ _ _ c.scans-test.false c.scans.invariant

pub returns-in-Err : goal.returns-in-Err
returns-in-Err g c = wrote_part _ _ _ _ _ _ _ _ c.scans-test.true c.scans.invariant c.in-Err.ensures
