use Rattle.kl_json.proofs.Back.{back}
use Rattle.kl_json.proofs.Made.{item_written}
use Rattle.kl_json.proofs.laws.back_laws.Goals as goal

pub returns-clause-item : goal.returns-clause-item
returns-clause-item c = λ choices j v n refuses is deep. item_written choices refuses j v n is deep

pub returns-clause-again : goal.returns-clause-again
returns-clause-again c = λ choices j v refuses is. back choices refuses j v is
