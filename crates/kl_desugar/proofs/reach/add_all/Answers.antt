use Rattle.std.proofs.Common.{rules}
use Rattle.kl_desugar.proofs.Naming.{added_next}
use Rattle.kl_desugar.proofs.reach.add_all.Goals as goal

pub words-preserved : goal.words-preserved
words-preserved c =
    added_next c.args.words.now c.words.word-index c.word-item.result c.args.words.now c.args.names.now c.words.names c.insert.new.self c.words-test.true c.word-item.is
    (search (rules, c.in_ok-insert.ensures.updates)) c.words.invariant
