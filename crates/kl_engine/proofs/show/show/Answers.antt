use Rattle.std.proofs.Common.{[]}
use Rattle.kl_engine.proofs.ShowLemmas.{show_unopened, show_done}
use Rattle.kl_engine.proofs.show.show.Goals as goal

pub close-requires : goal.close-requires
close-requires g c = (c.show_file-result.ensures []).reads.is_open

pub returns-in-Err : goal.returns-in-Err
returns-in-Err g c = λ ds. rw c.open_fault.ensures (show_unopened _ ds _ _ _ c.in-Err.stop c.in-Err.ensures)

pub returns : goal.returns
returns g c = λ ds. show_done _ ds c.in-Ok.file _ _ _ _ _ _ _ c.in-Ok.ensures (c.show_file-result.ensures ds) c.close.ensures
