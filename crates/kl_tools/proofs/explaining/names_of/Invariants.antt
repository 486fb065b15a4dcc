use Rattle.std.proofs.Common.{◌≡◌, map, take}
use Rattle.kl_tools.proofs.explaining.names_of.Given as goal

abbrev pub invariant-drivers : goal.invariant-drivers
invariant-drivers g l = l.names.items ≡ map (λ d. ((goal.Driver-dyn g (d.vtable, d.value)).state d.value).kind.name) (take l.driver-index l.drivers.items)
