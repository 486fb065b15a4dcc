use Rattle.std.proofs.Common.{◌≡◌, ◌<◌, ℕ, false, Some, map, slice_get}
use Rattle.kl_ask.specs.Driver.{DriverKind}
use Rattle.kl_sources.specs.Sources.{kinds_of, same}
use Rattle.kl_sources.proofs.placing.find_driver.Given as goal

abbrev pub invariant-drivers : goal.invariant-drivers
invariant-drivers g l = (j : ℕ) (k : DriverKind) → j < l.i → slice_get (kinds_of (map (λ d. (goal.Driver-dyn g (d.vtable, d.value)).state d.value) l.drivers.items)) j ≡ Some k → same k.name l.name ≡ false
