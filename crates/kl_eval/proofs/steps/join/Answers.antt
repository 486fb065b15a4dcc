use Rattle.kl_eval.proofs.Forms.{joined_items}
use Rattle.kl_eval.proofs.steps.join.Goals as goal

pub returns-in-Ok-append : goal.returns-in-Ok-append
returns-in-Ok-append c = joined_items _ _ _ _ _ _ _ c.into_parts-kind.ensures c.in-Ok.is c.in-Ok-append.ensures c.unite.ensures
