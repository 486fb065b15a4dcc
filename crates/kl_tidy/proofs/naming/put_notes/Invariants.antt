use Rattle.std.proofs.Common.{◌≡◌, ◌+◌, ◌++◌, drop}
use Rattle.csv.specs.Records.{fields_of}
use Rattle.kl_tidy.specs.Naming.{header_notes, notes_from}
use Rattle.kl_tidy.proofs.naming.put_notes.Given as goal

abbrev pub invariant-names : goal.invariant-names
invariant-names l = l.notes.items ++ notes_from l.path (l.i + 1) (drop l.i (fields_of l.header)) (drop l.i l.names) ≡ l.fn.notes.items ++ header_notes l.path (fields_of l.header) l.names
