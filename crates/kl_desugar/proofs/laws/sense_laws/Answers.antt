use Rattle.kl_desugar.proofs.Sense.{makes_sense}
use Rattle.kl_desugar.proofs.Tidying.{resolved_tidy}
use Rattle.kl_desugar.proofs.laws.sense_laws.Goals as goal

pub returns : goal.returns
returns c = record {
  tidy = resolved_tidy;
  makes_sense = makes_sense;
}
