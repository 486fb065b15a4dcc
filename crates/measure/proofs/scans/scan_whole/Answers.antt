use Rattle.std.proofs.Common.{ap, refl, ◌∙◌}
use Rattle.kl_ask.specs.Driver.{State}
use Rattle.measure.proofs.Scanning.{asks_all}
use Rattle.measure.proofs.scans.scan_whole.Goals as goal

pub attach-requires-clause-fresh : goal.attach-requires-clause-fresh
attach-requires-clause-fresh c = ap (λ (s : State). s.attached c.args.name.now) c.new-driver.ensures

pub pull_all-requires : goal.pull_all-requires
pull_all-requires c =
    let found = c.in-Ok.ensures.attached in
    asks_all _ c.args.name.now _ _ _ c.in_ok-ty.ty _ c.in_ok-dup.ensures (c.of.ensures ∙ c.new-2.ensures.items) (c.of-2.ensures ∙ c.new-3.ensures.items) found.1 refl c.in_ok-ty.ensures.proper c.in_ok-ty.ensures.ground

-- no file is open of files that are new
pub new-driver-requires : goal.new-driver-requires
new-driver-requires c = λ k. ap (λ s. s.left k) c.new.ensures
