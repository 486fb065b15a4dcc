use Rattle.kl_rows.proofs.Sureness.{known_there, no_type_there}
use Rattle.kl_rows.proofs.knowing.knows_there.Goals as goal

pub returns-then-is_type : goal.returns-then-is_type
returns-then-is_type c = known_there _ _ _ _ c.knows.ensures

pub returns-else-is_type : goal.returns-else-is_type
returns-else-is_type c = no_type_there _ _ _ _ c.is_type.ensures c.if-is_type.false
