use Rattle.std.proofs.Common.{drop}
use Rattle.kl_rows.specs.Lists.{Holds}
use Rattle.kl_rows.proofs.fields.index_of.Given as goal

abbrev pub invariant-fields : goal.invariant-fields
invariant-fields l = Holds l.index (drop l.i l.fields)
