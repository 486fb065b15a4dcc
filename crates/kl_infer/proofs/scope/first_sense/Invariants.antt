use Rattle.std.proofs.Common.{◌≡◌, drop}
use Rattle.kl_infer.specs.Names.{meant_first}
use Rattle.kl_infer.proofs.scope.first_sense.Given as goal

abbrev pub invariant-sources : goal.invariant-sources
invariant-sources l = meant_first l.name (drop l.source-index l.sources) ≡ meant_first l.name l.sources
