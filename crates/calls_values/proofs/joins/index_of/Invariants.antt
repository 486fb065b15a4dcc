use Rattle.std.proofs.Common.{◌≡◌}
use Rattle.calls_values.proofs.joins.index_of.Given as goal

abbrev pub invariant-rows : goal.invariant-rows
invariant-rows l = l.index.label ≡ l.label
