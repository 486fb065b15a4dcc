use Rattle.kl_rows.specs.Looking.{SpellsTo}
use Rattle.kl_rows.proofs.knowing.+knows.Given as goal

abbrev pub invariant-knows_row-fields : goal.invariant-knows_row-fields
invariant-knows_row-fields l = SpellsTo l.cells l.numbers l.fields l.i
