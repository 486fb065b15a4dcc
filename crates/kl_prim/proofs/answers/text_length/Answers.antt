use Rattle.std.proofs.Common.{◌∙◌}
use Rattle.kl_prim.proofs.answers.text_length.Goals as goal

pub returns : goal.returns
returns c = c.one_text.ensures _ ∙ c.amount.ensures
