use Rattle.std.proofs.Common.{◌≡◌, drop}
use Rattle.kl_base.specs.Fields.{field}
use Rattle.kl_sqlserve.proofs.fitting.type_of_column.Given as goal

abbrev pub invariant-loop-column : goal.invariant-loop-column
invariant-loop-column l = field l.label (drop l.column-index l.columns) ≡ field l.label l.columns
