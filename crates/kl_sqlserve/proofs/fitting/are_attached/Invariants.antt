use Rattle.std.proofs.Common.{◌≡◌, drop}
use Rattle.kl_sqlserve.specs.Fitting.{are_attached}
use Rattle.kl_sqlserve.proofs.fitting.are_attached.Given as goal

abbrev pub invariant-loop-name : goal.invariant-loop-name
invariant-loop-name l = are_attached l.sources (drop l.name-index l.tables) ≡ are_attached l.sources l.tables
