use Rattle.std.proofs.Common.{◌≡◌, ◌++◌, codes, take}
use Rattle.std.specs.List.{flat_map}
use Rattle.kl_columns.specs.Writing.{spelled}
use Rattle.kl_columns.proofs.writing.put_quoted.Given as goal

abbrev pub invariant-loop-byte : goal.invariant-loop-byte
invariant-loop-byte l = l.page.items ≡ l.fn.page.items ++ codes "\"" ++ flat_map spelled (take l.byte-index l.text)
