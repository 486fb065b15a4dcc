use Rattle.kl_exchange.proofs.Scanning.{name_from}
use Rattle.kl_exchange.proofs.spans.take_name.Goals as goal

pub returns-in_ok-extend-in-Name : goal.returns-in_ok-extend-in-Name
returns-in_ok-extend-in-Name c = record {
  within = c.word_bytes-count.ensures.within;
  met = name_from c.args.machine.now c.in-Name.field-0 _ _ _ c.in-Name.is c.word_bytes-count.ensures.all c.in_ok-extend-in-Name.ensures;
}
