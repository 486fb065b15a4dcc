use Rattle.kl_cursor.proofs.MemoCode.{stop_inside}
use Rattle.kl_cursor.proofs.cursor.value_of.Goals as goal

pub returns-clause-kept : goal.returns-clause-kept
returns-clause-kept g c = λ h. stop_inside _ _ _ c.inside.ensures (c.whole.ensures.kept h)
