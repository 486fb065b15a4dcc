use Rattle.kl_rows.proofs.Expansions.{pushed}
use Rattle.kl_rows.proofs.fresh.add.Goals as goal

pub returns : goal.returns
returns c = pushed _ _ _ _ c.requires.fine c.requires.can c.in_ok-at.ensures
