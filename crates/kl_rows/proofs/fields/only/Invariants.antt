use Rattle.std.proofs.Common.{◌≡◌, ◌++◌, drop}
use Rattle.kl_rows.specs.Lists.{only, IsIndex}
use Rattle.kl_rows.proofs.fields.only.Given as goal

abbrev pub invariant-loop-pair : goal.invariant-loop-pair
invariant-loop-pair l = IsIndex l.index l.second × (l.fields.items ++ only (drop l.pair-index l.first) l.second ≡ only l.first l.second)
