use Rattle.std.proofs.Common.{◌<◌, subst}
use Rattle.std.proofs.lemmas.List.{length-map}
use Rattle.kl_scans.proofs.Called.{place_within, can_start, starts, starts_not}
use Rattle.kl_scans.proofs.scans.start_scan.Goals as goal

pub start_at-requires-clause-place : goal.start_at-requires-clause-place
start_at-requires-clause-place g c = subst (λ n. c.args.scan.now.driver < n) (length-map c.args.run.now.session.drivers.items _) (place_within _ _ c.requires)

pub start_at-requires-clause-can : goal.start_at-requires-clause-can
start_at-requires-clause-can g c = can_start _ _ c.requires

pub returns-in-Ok : goal.returns-in-Ok
returns-in-Ok g c = starts _ _ _ _ _ c.requires c.in-Ok.ensures c.count_start.ensures

pub returns-in-Err : goal.returns-in-Err
returns-in-Err g c = starts_not _ _ _ _ _ c.requires c.in-Err.ensures c.stop_of.ensures
