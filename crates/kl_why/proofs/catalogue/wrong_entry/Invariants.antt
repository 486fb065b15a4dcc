use Rattle.std.proofs.Common.{map}
use Rattle.kl_sources.specs.Sources.{kinds_of}
use Rattle.kl_why.proofs.Placed.{AreWell}
use Rattle.kl_why.proofs.catalogue.wrong_entry.Given as goal

abbrev pub invariant-entries : goal.invariant-entries
invariant-entries g l = AreWell (kinds_of (map (λ d. (goal.Driver-dyn g (d.vtable, d.value)).state d.value) l.drivers.items)) l.entries l.number
