use Rattle.std.proofs.Common.{ap}
use Rattle.kl_ask.specs.Driver.{State}
use Rattle.measure.proofs.tables.attached.Goals as goal

pub attach-requires-clause-fresh : goal.attach-requires-clause-fresh
attach-requires-clause-fresh c = ap (λ (s : State). s.attached c.args.name.now) c.new-driver.ensures

-- no file is open of files that are new
pub new-driver-requires : goal.new-driver-requires
new-driver-requires c = λ k. ap (λ s. s.left k) c.new.ensures
