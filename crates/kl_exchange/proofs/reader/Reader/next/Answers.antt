use Rattle.kl_exchange.proofs.Totals.{reads_total, reads_finished}
use Rattle.kl_exchange.proofs.reader.Reader.next.Goals as goal

pub returns-clause-total : goal.returns-clause-total
returns-clause-total c = reads_total _ c.answer.result _ c.answer.ensures

pub returns-clause-finished : goal.returns-clause-finished
returns-clause-finished c = reads_finished _ c.answer.result _ c.answer.ensures
