use Rattle.kl_eval.proofs.PublicLemmas.{lists, list_sense, lists_there}
use Rattle.kl_eval.proofs.public.eval_list.Goals as goal

pub value-requires : goal.value-requires
value-requires g c = list_sense _ _ _ _ c.as_slice.ensures.value c.requires

pub add_list-requires : goal.add_list-requires
add_list-requires g c = lists_there _ _ _ _ _ _ c.as_slice.ensures.value c.requires c.value.ensures

pub returns-clause-items : goal.returns-clause-items
returns-clause-items g c = lists _ _ _ _ _ _ _ _ _ c.as_slice.ensures.value c.requires c.value.ensures c.add_list.ensures
