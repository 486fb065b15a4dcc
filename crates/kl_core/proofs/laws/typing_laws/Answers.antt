use Rattle.kl_core.proofs.Safety.{safe, never_stuck}
use Rattle.kl_core.proofs.Proper.{types_proper}
use Rattle.kl_core.proofs.laws.typing_laws.Goals as goal

pub returns : goal.returns
returns c = record {
  types_proper = types_proper;
  never_stuck = λ S T t G env s told e h. never_stuck S T told t G env s e h;
  keeps_type = λ S T t G env s told e h. safe S T told t G env s e h;
}
