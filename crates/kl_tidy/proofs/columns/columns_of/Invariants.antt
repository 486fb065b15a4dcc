use Rattle.std.proofs.Common.{◌≡◌, map, take}
use Rattle.kl_tidy.specs.Rows.{column_of}
use Rattle.kl_tidy.proofs.columns.columns_of.Given as goal

abbrev pub invariant-loop-name : goal.invariant-loop-name
invariant-loop-name l = l.columns.items ≡ map (column_of l.command) (take l.name-index l.names)
