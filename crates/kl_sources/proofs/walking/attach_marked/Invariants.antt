use Rattle.std.proofs.Common.{map}
use Rattle.kl_scope.specs.Breaches.{is_marked}
use Rattle.kl_sources.specs.Walking.{AttachesBelow}
use Rattle.kl_sources.proofs.walking.attach_marked.Given as goal

abbrev pub invariant-sources : goal.invariant-sources
invariant-sources g l = AttachesBelow l.place (is_marked l.scoped) l.sources (map (λ d. (goal.Driver-dyn g (d.vtable, d.value)).state d.value) l.fn.drivers.items) (map (λ d. (goal.Driver-dyn g (d.vtable, d.value)).state d.value) l.drivers.items)
