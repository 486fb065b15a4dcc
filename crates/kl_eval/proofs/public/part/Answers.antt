use Rattle.kl_eval.proofs.PlainTerms.{plain_sense, part_same, part_tells}
use Rattle.kl_eval.proofs.public.part.Goals as goal

pub look-requires : goal.look-requires
look-requires g c = plain_sense _ _ _ c.requires

pub returns-clause-same : goal.returns-clause-same
returns-clause-same g c = part_same _ _ _ _ _ c.requires c.look.ensures

pub returns-clause-gives : goal.returns-clause-gives
returns-clause-gives g c = part_tells _ _ _ _ _ c.requires c.look.ensures
