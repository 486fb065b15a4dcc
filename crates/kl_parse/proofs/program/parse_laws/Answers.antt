use Rattle.kl_parse.proofs.Answer.{unique, all_told, one_place}
use Rattle.kl_parse.proofs.program.parse_laws.Goals as goal

pub returns-clause-unique : goal.returns-clause-unique
returns-clause-unique c = unique

pub returns-clause-told : goal.returns-clause-told
returns-clause-told c = all_told

pub returns-clause-one_place : goal.returns-clause-one_place
returns-clause-one_place c = one_place
