use Rattle.std.proofs.Common.{◌≡◌, ◌++◌, drop}
use Rattle.kl_rows.specs.Lists.{both, IsIndex}
use Rattle.kl_rows.proofs.fields.add_both.Given as goal

abbrev pub invariant-loop-pair : goal.invariant-loop-pair
invariant-loop-pair l = IsIndex l.index l.second × (l.pairs.items ++ both (drop l.pair-index l.first) l.second ≡ l.initial.pairs.items ++ both l.first l.second)
