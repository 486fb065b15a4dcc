use Rattle.csv.specs.Records.{fields_of}
use Rattle.kl_columns.proofs.Cells.{Left}
use Rattle.kl_columns.proofs.header.labels_in.Given as goal

abbrev pub invariant-cells : goal.invariant-cells
invariant-cells l = Left l.path (fields_of l.header) l.i l.labels.items l.notes.items l.fn.notes.items
