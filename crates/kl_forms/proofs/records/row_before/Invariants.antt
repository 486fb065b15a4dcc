use Rattle.std.proofs.Common.{drop}
use Rattle.kl_forms.specs.Rows.{Fronts}
use Rattle.kl_forms.proofs.records.row_before.Given as goal

abbrev pub invariant-fields : goal.invariant-fields
invariant-fields l = Fronts l.fields (drop l.i l.fields) l.fn.u.cells.items l.u.cells.items l.end l.row
