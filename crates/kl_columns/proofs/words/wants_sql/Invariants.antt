use Rattle.std.proofs.Common.{◌≡◌, false, map, string_bytes, take}
use Rattle.std.specs.List.{list_any}
use Rattle.kl_columns.specs.Words.{is_option}
use Rattle.kl_columns.proofs.words.wants_sql.Given as goal

abbrev pub invariant-loop-word : goal.invariant-loop-word
invariant-loop-word l = list_any is_option (take l.word-index (map string_bytes l.words)) ≡ false
