use Rattle.std.proofs.Common.{map, take}
use Rattle.kl_engine.proofs.StatsLemmas.{Counted}
use Rattle.kl_engine.proofs.stats.rows_handed.Given as goal

abbrev pub invariant-drivers : goal.invariant-drivers
invariant-drivers g l = Counted (map (λ d. (goal.Driver-dyn g (d.vtable, d.value)).state d.value) (take l.driver-index l.drivers.items)) l.driver-index l.handed
