use Rattle.std.proofs.Common.{◌≡◌, true, take}
use Rattle.std.specs.List.{list_all}
use Rattle.kl_base.specs.Word.{is_word_byte}
use Rattle.kl_exchange.proofs.spans.word_bytes.Given as goal

abbrev pub invariant-loop-i : goal.invariant-loop-i
invariant-loop-i l = list_all is_word_byte (take l.i l.bytes) ≡ true
