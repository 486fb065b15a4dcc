use Rattle.kl_json.proofs.Telling.{written_at, refused_at}
use Rattle.kl_json.proofs.fault.write_parts.Goals as goal

pub returns-in-Err : goal.returns-in-Err
returns-in-Err g c = refused_at (λ part. part.now) c.args.parts.now _ c.parts.part-index _ c.in-Err.refused _ _ c.parts-test.true c.parts.invariant c.in-Err.ensures

pub parts-preserved : goal.parts-preserved
parts-preserved g c = written_at (λ part. part.now) c.args.parts.now _ c.parts.part-index _ _ _ c.parts-test.true c.parts.invariant c.in-Ok.ensures
