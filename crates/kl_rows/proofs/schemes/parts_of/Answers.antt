use Rattle.kl_rows.proofs.SchemeLemmas.{tabled_none}
use Rattle.kl_rows.proofs.schemes.parts_of.Goals as goal

pub loop-cell-init : goal.loop-cell-init
loop-cell-init c = tabled_none _ _ c.in_ok-parts.ensures.items
