use Rattle.std.proofs.Common.{◌≡◌, [], drop}
use Rattle.csv.specs.Records.{fields_of, partial_of}
use Rattle.kl_tidy.specs.Rows.{cells_printed}
use Rattle.kl_tidy.proofs.Printing.{behind}
use Rattle.kl_tidy.proofs.columns.record_printed.Given as goal

abbrev pub invariant-cells : goal.invariant-cells
invariant-cells l = record {
  whole : partial_of l.record ≡ [];
  so_far : cells_printed l.columns l.number (fields_of l.row) ≡ behind (fields_of l.record) (cells_printed (drop l.i l.columns) l.number (drop l.i (fields_of l.row)));
}
