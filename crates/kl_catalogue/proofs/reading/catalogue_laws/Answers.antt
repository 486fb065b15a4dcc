use Rattle.kl_catalogue.proofs.Answer.{unique, told, one_place}
use Rattle.kl_catalogue.proofs.reading.catalogue_laws.Goals as goal

pub returns-clause-unique : goal.returns-clause-unique
returns-clause-unique c = unique

pub returns-clause-told : goal.returns-clause-told
returns-clause-told c = told

pub returns-clause-one_place : goal.returns-clause-one_place
returns-clause-one_place c = one_place
