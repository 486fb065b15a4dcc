use Rattle.std.proofs.Common.{refl, ap}
use Rattle.kl_cursor.specs.Gathering.{listed}
use Rattle.kl_cursor.proofs.EmitCode.{all_begin, all_ready, all_goes, all_end, all_stop, scan_refuses}
use Rattle.kl_cursor.proofs.Scanning.{pulled_more, pulled_none}
use Rattle.kl_cursor.proofs.parts.pull_items.Goals as goal

pub pulls-init : goal.pulls-init
pulls-init g c = all_begin _ _ _ _ _ _ c.requires c.in-Ok.ensures

pub pull-requires-clause-scan : goal.pull-requires-clause-scan
pull-requires-clause-scan g c = (all_ready _ _ _ _ _ _ _ _ _ c.pulls.invariant c.requires).0

pub pull-requires-clause-is_open : goal.pull-requires-clause-is_open
pull-requires-clause-is_open g c = (all_ready _ _ _ _ _ _ _ _ _ c.pulls.invariant c.requires).1

pub returns-in-Err-pull : goal.returns-in-Err-pull
returns-in-Err-pull g c = all_stop _ _ _ _ _ _ _ _ _ c.pulls.invariant _ _ _ c.in-Err-pull.ensures

pub pulls-preserved : goal.pulls-preserved
pulls-preserved g c = all_goes _ _ _ _ _ _ _ _ _ c.pulls.invariant _ _ _ refl (pulled_more _ _ _ _ _ _ _ _ c.in-Ok-true.is c.in-Ok-true.field-0-test c.pull.ensures)

pub returns-in-Ok-false : goal.returns-in-Ok-false
returns-in-Ok-false g c =
    let p = pulled_none _ _ _ _ _ _ _ _ c.in-Ok-false.is c.in-Ok-false.field-0-test c.pull.ensures in
    all_end _ _ _ _ _ _ _ _ _ c.pulls.invariant _ _ _ _ _ _ (ap listed p.same) p c.finish.ensures

pub returns : goal.returns
returns g c = scan_refuses _ _ _ _ _ _ _ c.in-Err.ensures
