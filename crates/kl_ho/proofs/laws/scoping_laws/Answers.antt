use Rattle.kl_ho.proofs.ProgramScoping.{program_keeps, knows_first}
use Rattle.kl_ho.proofs.laws.scoping_laws.Goals as goal

pub returns : goal.returns
returns c = record { keeps = λ fields ds e sources k h n. program_keeps fields ds e sources k h n; first = λ sources. knows_first sources }
