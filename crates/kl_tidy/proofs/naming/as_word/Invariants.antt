use Rattle.std.proofs.Common.{◌≡◌, ◌++◌, map, take}
use Rattle.kl_json.specs.Meaning.{letter_before, word_byte}
use Rattle.kl_tidy.proofs.naming.as_word.Given as goal

abbrev pub invariant-loop-byte : goal.invariant-loop-byte
invariant-loop-byte l = l.word.items ≡ letter_before l.cell ++ map word_byte (take l.byte-index l.cell)
