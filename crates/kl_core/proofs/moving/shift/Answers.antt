use Rattle.kl_core.proofs.Raising.{shifted_means, shifted_typed}
use Rattle.kl_core.proofs.moving.shift.Goals as goal

pub returns-clause-means : goal.returns-clause-means
returns-clause-means c = shifted_means c.raise.result _ _ _ c.raise.ensures

pub returns-clause-typed : goal.returns-clause-typed
returns-clause-typed c = shifted_typed c.raise.result _ _ _ c.raise.ensures
