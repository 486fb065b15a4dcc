use Rattle.std.proofs.Common.{[]}
use Rattle.kl_ho.specs.Growing.{highers_of}
use Rattle.kl_ho.proofs.Reaching.{listed_made, refused_made}
use Rattle.kl_ho.proofs.expanded.append.Goals as goal

pub returns-in-Ok : goal.returns-in-Ok
returns-in-Ok c =
    listed_made c.args.t.now.base.now (highers_of c.args.t.now) c.args.decl.now _ _ _ _ _ c.in-Ok.decl c.list.result c.in-Ok.ensures c.list.ensures.made c.list.ensures.from c.list.ensures.wanting

pub returns-in-Err : goal.returns-in-Err
returns-in-Err c = refused_made c.args.t.now.base.now (highers_of c.args.t.now) c.args.decl.now _ [] [] [] [] c.in-Err.stop c.refused.result c.in-Err.ensures c.refused.ensures
