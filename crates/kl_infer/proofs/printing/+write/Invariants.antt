use Rattle.std.proofs.Common.{take}
use Rattle.kl_infer.specs.Numbers.{Writes}
use Rattle.kl_infer.proofs.RowLemmas.{front_variables, front_texts}
use Rattle.kl_infer.proofs.printing.+write.Given as goal

abbrev pub decreases-write : goal.decreases-write
decreases-write l = l.place

abbrev pub decreases-write_row : goal.decreases-write_row
decreases-write_row l = l.place

abbrev pub invariant-write_row-fields : goal.invariant-write_row-fields
invariant-write_row-fields l = Writes l.fn.page l.page (front_variables l.parts (take l.i l.fields.items)) (front_texts l.parts 0 (take l.i l.fields.items))
