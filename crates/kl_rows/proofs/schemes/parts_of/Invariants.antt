use Rattle.kl_rows.proofs.SchemeLemmas.{TabledTo}
use Rattle.kl_rows.proofs.schemes.parts_of.Given as goal

abbrev pub invariant-loop-cell : goal.invariant-loop-cell
invariant-loop-cell l = TabledTo l.cells l.cell-index l.parts.items
