use Rattle.std.proofs.Common.{◌≡◌, ◌+◌, ◌-◌, ◌++◌}
use Rattle.kl_tools.specs.Made.{rows_from}
use Rattle.kl_tools.proofs.handing.made_rows.Given as goal

abbrev pub invariant-numbers : goal.invariant-numbers
invariant-numbers l = l.rows.items ++ rows_from l.source.seed l.number (l.from + l.count - l.number) ≡ rows_from l.source.seed l.from l.count
