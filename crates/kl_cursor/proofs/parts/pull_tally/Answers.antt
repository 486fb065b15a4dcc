use Rattle.std.proofs.Common.{refl}
use Rattle.kl_cursor.specs.Gathering.{tally}
use Rattle.kl_cursor.proofs.EmitCode.{all_begin, all_ready, all_end, all_stop, scan_refuses, tally_goes, tally_lost, tally_owned}
use Rattle.kl_cursor.proofs.Rows.{pull_falls}
use Rattle.kl_cursor.proofs.Scanning.{pulled_more, pulled_none}
use Rattle.kl_cursor.proofs.parts.pull_tally.Goals as goal

pub pulls-init : goal.pulls-init
pulls-init g c = (let b = all_begin _ _ _ _ _ _ c.requires c.in-Ok.ensures in (b.0, b.1, c.new-rows.ensures.items))

pub pull-requires-clause-scan : goal.pull-requires-clause-scan
pull-requires-clause-scan g c = (all_ready _ _ _ _ _ _ _ _ _ (c.pulls.invariant.0, c.pulls.invariant.1) c.requires).0

pub pull-requires-clause-is_open : goal.pull-requires-clause-is_open
pull-requires-clause-is_open g c = (all_ready _ _ _ _ _ _ _ _ _ (c.pulls.invariant.0, c.pulls.invariant.1) c.requires).1

pub pull-requires-clause-room : goal.pull-requires-clause-room
pull-requires-clause-room g c = (all_ready _ _ _ _ _ _ _ _ _ (c.pulls.invariant.0, c.pulls.invariant.1) c.requires).2

pub returns-in-Err-pull : goal.returns-in-Err-pull
returns-in-Err-pull g c = all_stop _ _ _ _ _ _ _ _ _ (c.pulls.invariant.0, c.pulls.invariant.1) _ _ _ c.in-Err-pull.ensures

pub pulls-smaller : goal.pulls-smaller
pulls-smaller g c = pull_falls _ _ _ _ _ _ (pulled_more _ _ _ _ _ _ _ _ c.in-Ok-true.is c.in-Ok-true.field-0-test c.pull.ensures)

pub pulls-preserved : goal.pulls-preserved
pulls-preserved g c = (let b = tally_goes _ _ _ _ _ _ _ _ _ (c.pulls.invariant.0, c.pulls.invariant.1) _ _ _ (pulled_more _ _ _ _ _ _ _ _ c.in-Ok-true.is c.in-Ok-true.field-0-test c.pull.ensures) c.pulls.invariant.2 _ c.deref.ensures.value _ c.in-Ok-add_each.ensures in (b.0, b.1, c.clear.ensures.items))

pub finish-requires : goal.finish-requires
finish-requires g c = tally_owned _ _ _ _ _ _ _ _ _ (c.pulls.invariant.0, c.pulls.invariant.1) _ _ _ (pulled_more _ _ _ _ _ _ _ _ c.in-Ok-true.is c.in-Ok-true.field-0-test c.pull.ensures) c.pulls.invariant.2 _ c.deref.ensures.value

pub returns-in-Err-add_each : goal.returns-in-Err-add_each
returns-in-Err-add_each g c = tally_lost _ _ _ _ _ _ _ _ _ (c.pulls.invariant.0, c.pulls.invariant.1) _ _ _ (pulled_more _ _ _ _ _ _ _ _ c.in-Ok-true.is c.in-Ok-true.field-0-test c.pull.ensures) c.pulls.invariant.2 _ c.deref.ensures.value (tally c.add_each.new.self) _ c.finish.ensures

pub returns-in-Ok-false : goal.returns-in-Ok-false
returns-in-Ok-false g c = all_end _ _ _ _ _ _ _ _ _ (c.pulls.invariant.0, c.pulls.invariant.1) _ _ _ _ _ _ refl (pulled_none _ _ _ _ _ _ _ _ c.in-Ok-false.is c.in-Ok-false.field-0-test c.pull.ensures) c.finish-in-Ok-false.ensures

pub returns : goal.returns
returns g c = scan_refuses _ _ _ _ _ _ _ c.in-Err.ensures
