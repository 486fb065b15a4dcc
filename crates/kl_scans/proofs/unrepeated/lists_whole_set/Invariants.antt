use Rattle.kl_scans.proofs.Repeats.{NoneBefore}
use Rattle.kl_scans.proofs.unrepeated.lists_whole_set.Given as goal

abbrev pub invariant-sources : goal.invariant-sources
invariant-sources l = NoneBefore l.sources l.scan l.source-index
