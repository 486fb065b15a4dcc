use Rattle.kl_heads.proofs.Again.{head_again, read_headed}
use Rattle.kl_heads.proofs.Items.{head_or_item}
use Rattle.kl_heads.proofs.OneAnswer.{one_answer}
use Rattle.kl_heads.proofs.Proper.{head_proper}
use Rattle.kl_heads.proofs.Reaching.{one_head}
use Rattle.kl_heads.proofs.laws.head_laws.Goals as goal

pub returns-clause-one_head : goal.returns-clause-one_head
returns-clause-one_head c = one_head

pub returns-clause-no_item : goal.returns-clause-no_item
returns-clause-no_item c = head_or_item

pub returns-clause-one_answer : goal.returns-clause-one_answer
returns-clause-one_answer c = one_answer

pub returns-clause-proper : goal.returns-clause-proper
returns-clause-proper c = head_proper

pub returns-clause-again : goal.returns-clause-again
returns-clause-again c = head_again

pub returns-clause-written : goal.returns-clause-written
returns-clause-written c = read_headed
