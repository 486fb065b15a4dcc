use Rattle.std.proofs.Common.{◌≡◌, ◌+◌, ◌++◌, map, length}
use Rattle.std.specs.List.{range_with_len}
use Rattle.csv.specs.Records.{fields_of}
use Rattle.kl_flat.specs.Filling.{AreLevel}
use Rattle.kl_flat.specs.Held.{columns_in, row_at}
use Rattle.kl_flat.specs.Records.{IsPlain, records_left}
use Rattle.kl_flat.specs.Table.{first_missing, front_of, row_in}
use Rattle.kl_flat.proofs.table.read_rows.Given as goal

abbrev pub invariant-records : goal.invariant-records
invariant-records l = record {
  plain : IsPlain l.reader;
  columns : columns_in l.held.items ≡ l.columns;
  level : AreLevel l.len l.held.items;
  rows : front_of (map (row_in l.columns (fields_of l.header)) (records_left l.fn.reader)) ≡ map (row_at l.held.items) (range_with_len 0 l.len) ++ front_of (map (row_in l.columns (fields_of l.header)) (records_left l.reader));
  bad : first_missing 1 (map (row_in l.columns (fields_of l.header)) (records_left l.fn.reader)) ≡ first_missing (l.len + 1) (map (row_in l.columns (fields_of l.header)) (records_left l.reader));
}

abbrev pub decreases-records : goal.decreases-records
decreases-records l = length (records_left l.reader)
