use Rattle.kl_value.specs.Written.{text_of}
use Rattle.kl_exchange.proofs.Printed.{whole}
use Rattle.kl_exchange.proofs.printing.print.Goals as goal

pub returns-in-Ok : goal.returns-in-Ok
returns-in-Ok g c = record {
  wrote = whole (text_of c.args.v.now) c.in-Ok.field-0 _ _ _ _ _ (rw c.new-page.ensures at c.in-Ok.ensures.prints) c.flush.ensures.wrote;
  reads_back = c.in-Ok.ensures.reads_back;
}
