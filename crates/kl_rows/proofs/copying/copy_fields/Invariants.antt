use Rattle.std.proofs.Common.{vec_len}
use Rattle.kl_rows.proofs.RowCopies.{Split}
use Rattle.kl_rows.proofs.copying.copy_fields.Given as goal

abbrev pub invariant-fields : goal.invariant-fields
invariant-fields l = Split l.fn.target.items l.target.items l.fn.rest l.fn.fields.items l.left.items l.at

abbrev pub decreases-fields : goal.decreases-fields
decreases-fields l = vec_len l.left
