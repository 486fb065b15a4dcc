use Rattle.std.proofs.Common.{◌≡◌, take}
use Rattle.kl_scope.specs.Breaches.{is_marked}
use Rattle.kl_sources.specs.Attaching.{list_of}
use Rattle.kl_sources.proofs.walking.list.Given as goal

abbrev pub invariant-sources : goal.invariant-sources
invariant-sources l = l.list.items ≡ list_of (is_marked l.scoped) 0 (take l.place l.sources)
