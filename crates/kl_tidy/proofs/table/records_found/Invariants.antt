use Rattle.std.proofs.Common.{◌≡◌, ◌+◌, ◌∷◌, List, drop, map}
use Rattle.csv.specs.Records.{fields_of}
use Rattle.kl_flat.specs.Table.{Record}
use Rattle.kl_tidy.specs.Rows.{records_printed}
use Rattle.kl_tidy.specs.Tables.{table_text}
use Rattle.kl_tidy.proofs.Printing.{behind}
use Rattle.kl_tidy.proofs.table.records_found.Given as goal

abbrev pub invariant-rows : goal.invariant-rows
invariant-rows l = (done : List Record) × (l.page.items ≡ table_text (l.names ∷ done))
    × (records_printed l.columns 1 (map fields_of l.rows) ≡ behind done (records_printed l.columns (l.i + 1) (map fields_of (drop l.i l.rows))))
