use Rattle.kl_eval.proofs.PlainTerms.{plain_sense, plain_same, plain_tells}
use Rattle.kl_eval.proofs.public.plain.Goals as goal

pub value-requires : goal.value-requires
value-requires g c = plain_sense _ _ _ c.requires

pub returns-clause-same : goal.returns-clause-same
returns-clause-same g c = plain_same _ _ _ _ _ c.requires c.value.ensures

pub returns-clause-gives : goal.returns-clause-gives
returns-clause-gives g c = plain_tells _ _ _ _ _ c.requires c.value.ensures
