use Rattle.std.proofs.Common.{sym, ◌∙◌}
use Rattle.kl_engine.specs.Verdict.{head_line, upgraded}
use Rattle.kl_engine.proofs.ShowLemmas.{head_failed, upgrade_listed, upgrade_other, upgrade_unput, upgraded_fronts}
use Rattle.kl_engine.proofs.show.upgrade_file.Goals as goal

pub returns-in-Err : goal.returns-in-Err
returns-in-Err g c = λ ds. rw c.stop_fault.ensures (upgrade_unput ds c.args.file c.args.ty c.in-Err.stop _ _ _ c.requires.is_open (c.in-Err.ensures c.args.ty c.requires.of_type))

pub returns-then-not-states_no_other : goal.returns-then-not-states_no_other
returns-then-not-states_no_other g c = λ ds. upgrade_other ds c.args.file _ _ _ c.in-Ok-head.stated (rw c.new-items.ensures at c.in-Ok-head.ensures) c.args.ty _ _ (c.in-Ok.ensures c.args.ty c.requires.of_type) (sym c.states_no_other.ensures ∙ c.if-not-states_no_other.true)

pub returns-else-not-states_no_other : goal.returns-else-not-states_no_other
returns-else-not-states_no_other g c = λ ds. upgrade_listed ds c.args.file _ _ _ c.in-Ok-head.stated (rw c.new-items.ensures at c.in-Ok-head.ensures) c.args.ty _ _ (c.in-Ok.ensures c.args.ty c.requires.of_type) (sym c.states_no_other.ensures ∙ c.if-not-states_no_other.false) _ _ _ (c.list_items.ensures ds)

pub returns-in-Err-head : goal.returns-in-Err-head
returns-in-Err-head g c = λ ds. rw c.fetch_fault.ensures (head_failed ds c.args.file _ _ _ (upgraded c.args.ty) (head_line c.args.ty) (upgraded_fronts c.args.ty) _ _ (c.in-Ok.ensures c.args.ty c.requires.of_type).took c.in-Err-head.error (rw c.new-items.ensures at c.in-Err-head.ensures))
