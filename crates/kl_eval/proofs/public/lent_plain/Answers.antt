use Rattle.kl_eval.proofs.PlainTerms.{anywhere_sense, told_is}
use Rattle.kl_eval.proofs.public.lent_plain.Goals as goal

pub lent-requires : goal.lent-requires
lent-requires c = anywhere_sense _ _ c.requires.sense

pub returns-clause-value : goal.returns-clause-value
returns-clause-value c = told_is (λ v. v.now) _ _ _ c.requires.plain c.requires.sense c.lent.ensures.value
