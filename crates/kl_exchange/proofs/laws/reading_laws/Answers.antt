use Rattle.kl_exchange.proofs.Canonical.{item_again, item_canonical, item_nests}
use Rattle.kl_exchange.proofs.OneAnswer.{one_front, one_answer}
use Rattle.kl_exchange.proofs.laws.reading_laws.Goals as goal

pub returns-clause-one_item : goal.returns-clause-one_item
returns-clause-one_item c = one_front

pub returns-clause-one_answer : goal.returns-clause-one_answer
returns-clause-one_answer c = one_answer

pub returns-clause-canonical : goal.returns-clause-canonical
returns-clause-canonical c = item_canonical

pub returns-clause-nests : goal.returns-clause-nests
returns-clause-nests c = item_nests

pub returns-clause-again : goal.returns-clause-again
returns-clause-again c = item_again
