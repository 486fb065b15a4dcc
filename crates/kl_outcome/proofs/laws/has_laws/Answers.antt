use Rattle.kl_outcome.proofs.Having.{told, tells}
use Rattle.kl_outcome.proofs.laws.has_laws.Goals as goal

pub returns : goal.returns
returns c = record { told = told; tells = tells }
