use Rattle.std.proofs.Common.{Ok, Err, refl}
use Rattle.kl_sources.proofs.StepLemmas.{unmarked_end, marked_end}
use Rattle.kl_sources.proofs.walking.attach_if.Goals as goal

pub returns-in-Ok : goal.returns-in-Ok
returns-in-Ok g c = marked_end c.args.marked c.args.source.now (Ok c.in-Ok.field-0) _ _ _ c.if-marked.true c.in-Ok.ensures tt

pub returns-in-Err : goal.returns-in-Err
returns-in-Err g c = marked_end c.args.marked c.args.source.now (Err c.in-Err.error) _ _ _ c.if-marked.true c.in-Err.ensures refl

pub returns-else-marked : goal.returns-else-marked
returns-else-marked g c = unmarked_end c.args.marked c.args.source.now _ c.if-marked.false
