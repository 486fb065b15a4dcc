use Rattle.kl_exchange.proofs.FileReading.{hands_out}
use Rattle.kl_exchange.proofs.file_reader.FileReader.next_held.Goals as goal

pub returns : goal.returns
returns c = rw (← c.self.view_is) (hands_out _ c.next.result c.next.new.self c.self.invariant c.next.ensures.reads c.next.ensures.total c.next.ensures.finished)
