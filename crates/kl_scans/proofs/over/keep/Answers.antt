use Rattle.std.proofs.Common.{ap}
use Rattle.kl_scans.specs.Keeping.{kept_in, room_in}
use Rattle.kl_scans.proofs.Doing.{keeps}
use Rattle.kl_scans.proofs.over.keep.Goals as goal

pub returns : goal.returns
returns g c =
    keeps _ c.args.key c.in-Some.memo c.keep.new.self (ap kept_in c.in-Some.is) (ap room_in c.in-Some.is) c.args.value _ c.in_ok-keep-in-Some.ensures.kept c.requires c.saturating_add-run.ensures
