use Rattle.std.proofs.Common.{rules, arith}
use Rattle.kl_exchange.proofs.SpanLemmas.{takes_brace, takes_bracket, takes_variant}
use Rattle.kl_exchange.proofs.spans.take_bracket.Goals as goal

pub returns-in-123 : goal.returns-in-123
returns-in-123 c =
    rw c.turn.ensures
    (takes_brace c.args.machine.now c.args.bytes.now c.requires (omega (arith, c.in-123.len_at_least)) (search rules) (omega (arith, c.len.ensures, c.if-len-ge-NESTING_LIMIT.false)))

pub returns-in-91 : goal.returns-in-91
returns-in-91 c =
    rw c.turn-in-91.ensures
    (takes_bracket c.args.machine.now c.args.bytes.now c.requires (omega (arith, c.in-91.len_at_least)) (search rules) (omega (arith, c.len.ensures, c.if-len-ge-NESTING_LIMIT.false)))

pub returns-in-60 : goal.returns-in-60
returns-in-60 c =
    rw c.turn-in-60.ensures
    (takes_variant c.args.machine.now c.args.bytes.now c.requires (omega (arith, c.in-60.len_at_least)) (search rules) (omega (arith, c.len.ensures, c.if-len-ge-NESTING_LIMIT.false)))
