use Rattle.std.proofs.Common.{ap}
use Rattle.calls_sources.proofs.nested.attaches.Goals as goal

pub attach-requires-clause-fresh : goal.attach-requires-clause-fresh
attach-requires-clause-fresh c = ap (λ s. s.attached c.in_ok-name.name) c.new-driver.ensures
