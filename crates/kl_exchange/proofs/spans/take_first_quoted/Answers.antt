use Rattle.std.proofs.Common.{◌∙◌}
use Rattle.kl_exchange.proofs.SpanLemmas.{takes_first_quoted}
use Rattle.kl_exchange.proofs.spans.take_first_quoted.Goals as goal

pub returns-in_ok-push_set-in-Some : goal.returns-in_ok-push_set-in-Some
returns-in_ok-push_set-in-Some c =
    rw c.turn.ensures
    (takes_first_quoted c.args.machine.now c.in-Some.body.now _ c.args.bytes.now _ c.requires c.in-Some.ensures (c.of-text.ensures ∙ c.in_ok-from_slice-in-Some.ensures.items) c.in_ok-push_set-in-Some.ensures)
