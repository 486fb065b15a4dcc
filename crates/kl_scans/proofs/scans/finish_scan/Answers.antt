use Rattle.std.proofs.Common.{◌<◌, subst}
use Rattle.std.proofs.lemmas.List.{length-map}
use Rattle.kl_scans.proofs.Called.{owner_within, owned_there, closes}
use Rattle.kl_scans.proofs.scans.finish_scan.Goals as goal

pub finish_at-requires-clause-place : goal.finish_at-requires-clause-place
finish_at-requires-clause-place g c = subst (λ n. c.args.scan.now.driver < n) (length-map c.args.run.now.session.drivers.items _) (owner_within _ _ _ c.requires)

pub finish_at-requires-clause-is_open : goal.finish_at-requires-clause-is_open
finish_at-requires-clause-is_open g c = owned_there _ _ _ c.requires

pub returns : goal.returns
returns g c = closes _ _ _ c.requires _ c.finish_at.ensures
