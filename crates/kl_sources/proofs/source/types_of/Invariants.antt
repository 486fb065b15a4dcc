use Rattle.std.proofs.Common.{◌≡◌, take}
use Rattle.kl_sources.specs.Sources.{types_of}
use Rattle.kl_sources.proofs.source.types_of.Given as goal

abbrev pub invariant-types : goal.invariant-types
invariant-types l = l.types.items ≡ types_of (take l.source-index l.sources)
