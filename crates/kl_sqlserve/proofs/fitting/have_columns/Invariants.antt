use Rattle.std.proofs.Common.{◌≡◌, drop}
use Rattle.kl_sqlserve.specs.Fitting.{have_columns, type_at}
use Rattle.kl_sqlserve.proofs.fitting.have_columns.Given as goal

abbrev pub invariant-loop-column : goal.invariant-loop-column
invariant-loop-column l = have_columns (type_at l.sources l.tables) (drop l.column-index l.columns) ≡ have_columns (type_at l.sources l.tables) l.columns
