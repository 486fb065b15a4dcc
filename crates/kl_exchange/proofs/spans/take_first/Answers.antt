use Rattle.std.proofs.Common.{sym, arith}
use Rattle.kl_exchange.proofs.SpanLemmas.{takes_first_digit}
use Rattle.kl_exchange.proofs.spans.take_first.Goals as goal

pub returns-in_ok-push_set-in-len1-up : goal.returns-in_ok-push_set-in-len1-up
returns-in_ok-push_set-in-len1-up c =
    rw c.turn.ensures
    (takes_first_digit c.args.machine.now c.args.bytes.now _ _ c.requires (omega (arith, c.in-len1-up.len_at_least)) (sym c.if-is_ascii_digit.ensures.value) c.digit_of.ensures c.in_ok-push_set-in-len1-up.ensures)
