use Rattle.std.proofs.Common.{refl}
use Rattle.kl_joins.proofs.Kept.{memo_made}
use Rattle.kl_joins.proofs.keeping.memo.Goals as goal

pub returns : goal.returns
returns c =
    memo_made _ c.in_ok-part.part c.args.part c.args.frees _ c.in_ok-frees.was refl c.in_ok-part.ensures
