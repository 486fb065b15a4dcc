use Rattle.kl_exchange.proofs.Scanning.{text_from}
use Rattle.kl_exchange.proofs.spans.take_text.Goals as goal

pub returns-in_ok-extend-in-Text : goal.returns-in_ok-extend-in-Text
returns-in_ok-extend-in-Text c = record {
  within = c.plain_bytes-count.ensures.within;
  met = text_from c.args.machine.now _ _ _ c.in-Text.is c.plain_bytes-count.ensures.all c.in_ok-extend-in-Text.ensures;
}
