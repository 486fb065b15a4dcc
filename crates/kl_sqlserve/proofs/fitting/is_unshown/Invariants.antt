use Rattle.std.proofs.Common.{◌≡◌, drop}
use Rattle.kl_sqlserve.specs.Fitting.{is_unshown}
use Rattle.kl_sqlserve.proofs.fitting.is_unshown.Given as goal

abbrev pub invariant-loop-column : goal.invariant-loop-column
invariant-loop-column l = is_unshown l.label (drop l.column-index l.columns) ≡ is_unshown l.label l.columns
