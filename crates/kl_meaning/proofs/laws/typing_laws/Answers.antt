use Rattle.kl_meaning.proofs.Grounds.{program_ground}
use Rattle.kl_meaning.proofs.Safety.{program_typed, never_stuck}
use Rattle.kl_meaning.proofs.laws.typing_laws.Goals as goal

pub returns : goal.returns
returns c = record {
  types_proper = λ ds e types t g h. program_ground ds e types t g h;
  never_stuck = λ ds e types values t y h i. never_stuck ds e types values t y h i;
  keeps_type = λ ds e types values t y h i. program_typed ds e types values t y h i;
}
