use Rattle.kl_scope.specs.Senses.{behind_each}
use Rattle.kl_scope.proofs.FindingLemmas.{looked_at}
use Rattle.kl_scope.proofs.findings.Findings.repeats.Goals as goal

pub words-preserved : goal.words-preserved
words-preserved c = looked_at c.words.before c.look.new.before c.words.self c.look.new.self c.args.self.now c.args.words.now c.words.word-index c.word-item.result (behind_each c.args.words.now) c.words-test.true c.word-item.is c.words.invariant c.in_ok-look.ensures.before c.in_ok-look.ensures.found
