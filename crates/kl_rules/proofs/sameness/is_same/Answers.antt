use Rattle.kl_rules.proofs.SameTerms.{same_exactly}
use Rattle.kl_rules.proofs.sameness.is_same.Goals as goal

pub returns : goal.returns
returns c = same_exactly _ _ _ c.same.ensures
