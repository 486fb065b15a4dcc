use Rattle.std.proofs.Common.{sym, arith}
use Rattle.kl_exchange.proofs.SpanLemmas.{takes_digit}
use Rattle.kl_exchange.proofs.spans.take_value.Goals as goal

pub returns-in-len1-up : goal.returns-in-len1-up
returns-in-len1-up c =
    rw c.turn.ensures
    (takes_digit c.args.machine.now c.args.bytes.now _ c.requires (omega (arith, c.in-len1-up.len_at_least)) (sym c.if-is_ascii_digit.ensures.value) c.digit_of.ensures)
