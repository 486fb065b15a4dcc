use Rattle.kl_desugar.proofs.Counting.{small_ok}
use Rattle.kl_desugar.proofs.Mentioned.{reads_ok}
use Rattle.kl_desugar.proofs.program.translate.Goals as goal

pub returns-clause-small : goal.returns-clause-small
returns-clause-small c = small_ok _ c.args.scoped.now _ _ c.program.ensures c.sources.ensures c.last_term.ensures

pub returns-clause-mentioned : goal.returns-clause-mentioned
returns-clause-mentioned c = reads_ok _ c.args.scoped.now _ _ c.program.ensures c.sources.ensures c.last_term.ensures
