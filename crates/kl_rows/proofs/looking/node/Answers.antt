use Rattle.kl_rows.proofs.Spots.{known_as}
use Rattle.kl_rows.proofs.looking.node.Goals as goal

pub returns : goal.returns
returns c = known_as _ _ _ _ c.requires.fine c.find_type-root.ensures c.type_at.ensures
