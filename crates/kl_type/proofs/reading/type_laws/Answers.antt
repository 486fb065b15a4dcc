use Rattle.kl_type.proofs.Answer.{unique, one_place}
use Rattle.kl_type.proofs.Proper.{spells_proper}
use Rattle.kl_type.proofs.reading.type_laws.Goals as goal

pub returns-clause-unique : goal.returns-clause-unique
returns-clause-unique c = unique

pub returns-clause-proper : goal.returns-clause-proper
returns-clause-proper c = spells_proper

pub returns-clause-one_place : goal.returns-clause-one_place
returns-clause-one_place c = one_place
