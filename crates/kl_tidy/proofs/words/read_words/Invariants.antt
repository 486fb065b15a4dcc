use Rattle.std.proofs.Common.{◌≡◌, drop, map}
use Rattle.std.specs.Prelude.{string_bytes}
use Rattle.kl_tidy.specs.Words.{nothing_asked, read_words}
use Rattle.kl_tidy.proofs.words.read_words.Given as goal

abbrev pub invariant-loop-word : goal.invariant-loop-word
invariant-loop-word l = read_words nothing_asked (map string_bytes l.words) ≡ read_words l.line (map string_bytes (drop l.word-index l.words))
