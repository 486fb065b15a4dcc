use Rattle.std.proofs.Common.{◌≡◌, map, take}
use Rattle.kl_sources.specs.Sources.{kinds_of}
use Rattle.kl_run.specs.Planned.{ships_of}
use Rattle.kl_run.proofs.planning.ship_sources.Given as goal

abbrev pub invariant-sources : goal.invariant-sources
invariant-sources g l = l.ships.items ≡ ships_of (kinds_of (map (λ d. (goal.Driver-dyn g (d.vtable, d.value)).state d.value) l.drivers.items)) (take l.source-index l.sources)
