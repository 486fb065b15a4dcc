use Rattle.kl_rows.proofs.RowCopies.{takes_plain}
use Rattle.kl_rows.proofs.copying.copy_function.Goals as goal

pub returns : goal.returns
returns c = takes_plain _ _ _ _ c.requires.fine c.requires.can tt c.in_ok-at.ensures
