use Rattle.kl_rows.proofs.Expansions.{ExpandsFields}
use Rattle.kl_rows.proofs.fresh.+expand.Given as goal

abbrev pub invariant-make_row-loop-field : goal.invariant-make_row-loop-field
invariant-make_row-loop-field l = ExpandsFields l.fn.cells.items l.cells.items l.fields l.field-index l.numbers.items
