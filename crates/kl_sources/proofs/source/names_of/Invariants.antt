use Rattle.std.proofs.Common.{◌≡◌, take}
use Rattle.kl_sources.specs.Sources.{names_of}
use Rattle.kl_sources.proofs.source.names_of.Given as goal

abbrev pub invariant-names : goal.invariant-names
invariant-names l = l.names.items ≡ names_of (take l.source-index l.sources)
