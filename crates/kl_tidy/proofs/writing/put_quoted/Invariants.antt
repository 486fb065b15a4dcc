use Rattle.std.proofs.Common.{◌≡◌, ◌++◌, codes, take}
use Rattle.std.specs.List.{flat_map}
use Rattle.kl_tidy.specs.Writing.{shown}
use Rattle.kl_tidy.proofs.writing.put_quoted.Given as goal

abbrev pub invariant-loop-byte : goal.invariant-loop-byte
invariant-loop-byte l = l.page.items ≡ l.fn.page.items ++ codes "\"" ++ flat_map shown (take l.byte-index l.text)
