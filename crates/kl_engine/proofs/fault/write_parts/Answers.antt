use Rattle.kl_engine.proofs.FaultLemmas.{wrote_none, wrote_more, wrote_all, wrote_part}
use Rattle.kl_engine.proofs.fault.write_parts.Goals as goal

pub parts-init : goal.parts-init
parts-init g c = wrote_none _ _ _

pub parts-preserved : goal.parts-preserved
parts-preserved g c = wrote_more _ _ _ _ _ _ _ c.parts-test.true c.parts.invariant c.in-Ok.ensures

pub returns : goal.returns
returns g c = wrote_all _ _ _ _ _ c.parts-test.false c.parts.invariant

pub returns-in-Err : goal.returns-in-Err
returns-in-Err g c = wrote_part _ _ _ _ _ _ _ _ c.parts-test.true c.parts.invariant c.in-Err.ensures
