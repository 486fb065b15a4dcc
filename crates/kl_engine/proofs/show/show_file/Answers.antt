use Rattle.std.proofs.Common.{[], sym}
use Rattle.kl_outside.proofs.SinkLemmas.{append_known-nil}
use Rattle.kl_engine.specs.Verdict.{shown}
use Rattle.kl_engine.proofs.ShowLemmas.{head_failed, show_listed, shown_fronts}
use Rattle.kl_engine.proofs.show.show_file.Goals as goal

pub returns-in-Ok : goal.returns-in-Ok
returns-in-Ok g c = λ ds. show_listed ds c.args.file _ _ _ c.in-Ok.stated (rw c.new-items.ensures at c.in-Ok.ensures) _ _ _ _ (c.list_items.ensures ds)

pub returns : goal.returns
returns g c = λ ds. rw c.fetch_fault.ensures (head_failed ds c.args.file _ _ _ shown [] shown_fronts _ _ (sym (append_known-nil _)) c.in-Err.error (rw c.new-items.ensures at c.in-Err.ensures))
