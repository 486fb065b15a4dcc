use Rattle.std.proofs.Common.{[]}
use Rattle.kl_ho.specs.Growing.{highers_of}
use Rattle.kl_ho.proofs.Reaching.{listed_last, refused_last}
use Rattle.kl_ho.proofs.expanded.finished.Goals as goal

pub returns-in-Ok : goal.returns-in-Ok
returns-in-Ok c = listed_last c.args.t.now.base.now (highers_of c.args.t.now) c.args.e.now _ _ _ c.in-Ok.e c.numbered.result c.in-Ok.ensures c.numbered.ensures.same c.numbered.ensures.from c.numbered.ensures.wanting

pub returns-in-Err : goal.returns-in-Err
returns-in-Err c = refused_last c.args.t.now.base.now (highers_of c.args.t.now) c.args.e.now _ [] [] c.in-Err.stop c.refused.result c.in-Err.ensures c.refused.ensures
