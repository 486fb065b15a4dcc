use Rattle.std.proofs.Common.{map}
use Rattle.kl_sources.specs.Sources.{kinds_of}
use Rattle.kl_sources.proofs.PlacingLemmas.{Placing}
use Rattle.kl_sources.proofs.placing.place_sources.Given as goal

abbrev pub invariant-entries : goal.invariant-entries
invariant-entries g l = Placing (kinds_of (map (λ d. (goal.Driver-dyn g (d.vtable, d.value)).state d.value) l.drivers.items)) l.entries l.entry-index l.taken l.sources.items
