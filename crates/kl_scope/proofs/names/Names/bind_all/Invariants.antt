use Rattle.std.proofs.Common.{◌≡◌, drop}
use Rattle.kl_scope.specs.Senses.{all_bound, behind_each}
use Rattle.kl_scope.proofs.names.Names.bind_all.Given as goal

abbrev pub invariant-words : goal.invariant-words
invariant-words l = all_bound l.self (behind_each (drop l.word-index l.words)) ≡ all_bound l.initial.self (behind_each l.words)
