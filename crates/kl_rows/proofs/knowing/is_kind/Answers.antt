use Rattle.kl_rows.proofs.Sureness.{kind_known}
use Rattle.kl_rows.proofs.knowing.is_kind.Goals as goal

pub returns : goal.returns
returns c = kind_known _ _ _ _ _ _ c.find_kind.ensures c.kind_at.ensures c.is_fixed.ensures
