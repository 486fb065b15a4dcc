use Rattle.std.proofs.Common.{◌≡◌, ◌||◌, true, take}
use Rattle.std.specs.List.{list_all}
use Rattle.kl_columns.specs.Words.{is_table, is_values}
use Rattle.kl_columns.proofs.words.are_files.Given as goal

abbrev pub invariant-loop-path : goal.invariant-loop-path
invariant-loop-path l = list_all (λ path. is_table path || is_values path) (take l.path-index l.paths) ≡ true
