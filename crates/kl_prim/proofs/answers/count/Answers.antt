use Rattle.std.proofs.Common.{◌∙◌}
use Rattle.kl_prim.proofs.answers.count.Goals as goal

pub returns : goal.returns
returns c = c.one_collection.ensures.reads _ ∙ c.amount.ensures
