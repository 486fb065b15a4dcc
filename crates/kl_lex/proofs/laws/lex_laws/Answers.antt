use Rattle.kl_lex.proofs.OneLexing.{unique, placed, one_byte, refused}
use Rattle.kl_lex.proofs.laws.lex_laws.Goals as goal

pub returns-clause-unique : goal.returns-clause-unique
returns-clause-unique c = unique

pub returns-clause-placed : goal.returns-clause-placed
returns-clause-placed c = placed

pub returns-clause-one_byte : goal.returns-clause-one_byte
returns-clause-one_byte c = one_byte

pub returns-clause-refused : goal.returns-clause-refused
returns-clause-refused c = refused
