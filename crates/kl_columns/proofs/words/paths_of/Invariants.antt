use Rattle.std.proofs.Common.{◌≡◌, map, string_bytes, take}
use Rattle.kl_columns.specs.Words.{paths_of}
use Rattle.kl_columns.proofs.words.paths_of.Given as goal

abbrev pub invariant-loop-word : goal.invariant-loop-word
invariant-loop-word l = l.paths.items ≡ paths_of (take l.word-index (map string_bytes l.words))
