use Rattle.std.proofs.Common.{arith, sym}
use Rattle.csv.specs.Records.{fields_of}
use Rattle.kl_flat.proofs.Placing.{field-there}
use Rattle.kl_columns.proofs.Cells.{left_more}
use Rattle.kl_columns.proofs.header.labels_in.Goals as goal

pub returns-in_default-clause-labels : goal.returns-in_default-clause-labels
returns-in_default-clause-labels c = absurd (field-there (fields_of c.args.header.now) c.cells.i (sym c.in_default.ensures.value) (omega (arith, c.cells-test.true, c.len-i-end.ensures)))

pub returns-in_default-clause-notes : goal.returns-in_default-clause-notes
returns-in_default-clause-notes c = absurd (field-there (fields_of c.args.header.now) c.cells.i (sym c.in_default.ensures.value) (omega (arith, c.cells-test.true, c.len-i-end.ensures)))

pub cells-preserved : goal.cells-preserved
cells-preserved c =
    left_more c.args.path.now (fields_of c.args.header.now) c.cells.i c.in-Some.cell.now c.cells.labels.items c.cells.notes.items c.args.notes.now.items _ _
    (sym c.in-Some.ensures.value) c.in_ok-add_label.ensures c.in_ok-put_note.ensures c.cells.invariant
