use Rattle.kl_joins.proofs.Kept.{wrap_made}
use Rattle.kl_joins.proofs.keeping.wrap.Goals as goal

pub returns : goal.returns
returns c =
    wrap_made c.args.plan.now c.take-part.result c.put.new.plan c.args.depth c.frees_of-frees.result c.memo-memo.result c.put.result
    c.frees_of-frees.ensures
    c.take-part.ensures c.memo-memo.ensures c.put.ensures
