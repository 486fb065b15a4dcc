use Rattle.std.proofs.Common.{◌∙◌}
use Rattle.kl_rules.proofs.Forms.{other_many}
use Rattle.kl_rules.proofs.loops.only_item.Goals as goal

pub returns : goal.returns
returns c = λ k s e. other_many _ _ k _ s c.in-Make.is (λ one. c.if-len-eq1.false (c.len.ensures ∙ one)) e
