use Rattle.std.proofs.Common.{◌≡◌, take}
use Rattle.kl_functions.proofs.copies.word_copies.Given as goal

abbrev pub invariant-words : goal.invariant-words
invariant-words l = l.copies.items ≡ take l.word-index l.words
