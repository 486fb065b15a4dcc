use Rattle.std.proofs.Common.{◌-◌, length}
use Rattle.kl_flat.specs.Asked.{keep_of, tests_of}
use Rattle.kl_flat.specs.ColumnTable.{rows_of}
use Rattle.kl_flat.proofs.Adding.{Adding}
use Rattle.kl_flat.proofs.answering.add_passing.Given as goal

abbrev pub invariant-rows : goal.invariant-rows
invariant-rows l = Adding (rows_of l.cursor.table) l.cursor.at (keep_of l.cursor.ask) (tests_of l.cursor.ask) l.most l.initial.into.items l.into.items l.at l.left

abbrev pub decreases-rows : goal.decreases-rows
decreases-rows l = length (rows_of l.cursor.table) - l.at
