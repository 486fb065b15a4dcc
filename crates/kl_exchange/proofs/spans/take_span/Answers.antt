use Rattle.std.proofs.Common.{◌∙◌, sym}
use Rattle.kl_exchange.proofs.Scanning.{blanks_stay}
use Rattle.kl_exchange.proofs.spans.take_span.Goals as goal

pub returns-then-count-gt0 : goal.returns-then-count-gt0
returns-then-count-gt0 c = record {
  within = c.blanks-count.ensures.within;
  met = blanks_stay c.args.machine.now.stack c.args.machine.now.phase _ (sym c.stays_on_blank.ensures ∙ c.if-stays_on_blank.true) c.blanks-count.ensures.all;
}
