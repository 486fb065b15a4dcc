use Rattle.std.proofs.Common.{Some, None}
use Rattle.kl_engine.proofs.AnswerLemmas.{other_told}
use Rattle.kl_engine.proofs.run.gives_list.Goals as goal

pub returns-in-Some-List-clause-list : goal.returns-in-Some-List-clause-list
returns-in-Some-List-clause-list c = λ is. rw c.in-Some-List.field-0-is at c.in-Some-List.ensures.instances

pub returns-in-Some-Set-clause-other : goal.returns-in-Some-Set-clause-other
returns-in-Some-Set-clause-other c = λ is. other_told _ (Some c.in-Some-Set.field-0) (λ same. let set = c.in-Some-Set.field-0-is in cc) c.in-Some-Set.ensures.others c.requires.good c.requires.some

pub returns-in-Some-Bag-clause-other : goal.returns-in-Some-Bag-clause-other
returns-in-Some-Bag-clause-other c = λ is. other_told _ (Some c.in-Some-Bag.field-0) (λ same. let bag = c.in-Some-Bag.field-0-is in cc) c.in-Some-Bag.ensures.others c.requires.good c.requires.some

pub returns-in-None-clause-other : goal.returns-in-None-clause-other
returns-in-None-clause-other c = λ is. other_told _ None (λ same. cc) c.in-None.ensures.others c.requires.good c.requires.some
