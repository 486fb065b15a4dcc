use Rattle.std.proofs.Common.{◌∙◌}
use Rattle.kl_exchange.proofs.SpanLemmas.{takes_quoted}
use Rattle.kl_exchange.proofs.spans.take_quoted.Goals as goal

pub returns-in_ok-from_slice-in-Some : goal.returns-in_ok-from_slice-in-Some
returns-in_ok-from_slice-in-Some c =
    rw c.turn.ensures
    (takes_quoted c.args.machine.now c.in-Some.body.now _ c.args.bytes.now c.requires c.in-Some.ensures (c.of-text.ensures ∙ c.in_ok-from_slice-in-Some.ensures.items))
