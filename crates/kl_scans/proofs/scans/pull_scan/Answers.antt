use Rattle.std.proofs.Common.{◌<◌, [], refl, subst}
use Rattle.std.proofs.lemmas.List.{length-map}
use Rattle.kl_scans.proofs.Called.{place_within, open_there, pulls, pulls_not}
use Rattle.kl_scans.proofs.scans.pull_scan.Goals as goal

pub pull_at-requires-clause-place : goal.pull_at-requires-clause-place
pull_at-requires-clause-place g c = subst (λ n. c.args.scan.now.driver < n) (length-map c.args.run.now.session.drivers.items _) (place_within _ _ c.requires.scan)

pub pull_at-requires-clause-is_open : goal.pull_at-requires-clause-is_open
pull_at-requires-clause-is_open g c = open_there _ _ _ c.args.into.now.items c.args.into.now.items [] c.requires.scan c.requires.is_open

pub returns-in-Ok : goal.returns-in-Ok
returns-in-Ok g c = pulls _ _ _ _ _ _ c.requires.scan c.requires.is_open _ _ refl c.in-Ok.ensures

pub returns-in-Err : goal.returns-in-Err
returns-in-Err g c = pulls_not _ _ _ _ _ _ c.requires.scan c.requires.is_open _ _ _ c.in-Err.ensures c.stop_of.ensures
