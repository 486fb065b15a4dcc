use Rattle.std.proofs.Common.{◌≡◌, take}
use Rattle.std.specs.List.{flat_map}
use Rattle.kl_columns.specs.Writing.{entry_line}
use Rattle.kl_columns.proofs.listing.text_of.Given as goal

abbrev pub invariant-loop-entry : goal.invariant-loop-entry
invariant-loop-entry l = l.page.items ≡ flat_map entry_line (take l.entry-index l.entries)
