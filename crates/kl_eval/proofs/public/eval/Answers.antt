use Rattle.kl_eval.proofs.PublicLemmas.{evaluates, sense_at}
use Rattle.kl_eval.proofs.public.eval.Goals as goal

pub value-requires : goal.value-requires
value-requires g c = sense_at _ _ _ _ c.as_slice.ensures.value c.requires

pub returns-clause-value : goal.returns-clause-value
returns-clause-value g c = evaluates _ _ _ _ _ _ _ c.as_slice.ensures.value c.requires c.value.ensures c.inside.ensures
