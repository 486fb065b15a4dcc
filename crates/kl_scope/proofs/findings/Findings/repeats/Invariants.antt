use Rattle.std.proofs.Common.{drop}
use Rattle.kl_scope.specs.Senses.{behind_each}
use Rattle.kl_scope.proofs.FindingLemmas.{Looked}
use Rattle.kl_scope.proofs.findings.Findings.repeats.Given as goal

abbrev pub invariant-words : goal.invariant-words
invariant-words l = Looked l.before l.self (behind_each (drop l.word-index l.words)) l.initial.self (behind_each l.words)
