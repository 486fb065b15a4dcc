use Rattle.std.proofs.Common.{◌≡◌, drop}
use Rattle.kl_core.specs.Trees as term
use Rattle.kl_desugar.specs.Translation.{projected}
use Rattle.kl_desugar.proofs.calls.project.Given as goal

abbrev pub invariant-words : goal.invariant-words
invariant-words l = projected (drop l.word-index l.words) (term.view l.term) ≡ projected l.words (term.view l.initial.term)
