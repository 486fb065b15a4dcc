use Rattle.std.proofs.Common.{◌≡◌, take}
use Rattle.kl_why.proofs.finding.copies.Given as goal

abbrev pub invariant-sources : goal.invariant-sources
invariant-sources l = l.found.items ≡ take l.source-index l.sources
