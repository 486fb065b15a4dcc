use Rattle.kl_infer.proofs.RowLemmas.{OnRow}
use Rattle.kl_infer.proofs.printing.row_of.Given as goal

abbrev pub invariant-row : goal.invariant-row
invariant-row l = OnRow l.parts l.fn.place l.fields.items l.end

abbrev pub decreases-row : goal.decreases-row
decreases-row l = l.end
