use Rattle.std.proofs.Common.{◌∙◌, sym}
use Rattle.kl_exchange.proofs.SpanLemmas.{takes_set, takes_set_number}
use Rattle.kl_exchange.proofs.spans.take_set.Goals as goal

pub returns-in_ok-end_set-in-After : goal.returns-in_ok-end_set-in-After
returns-in_ok-end_set-in-After c =
    takes_set c.args.machine.now _ c.in-After.value c.args.bytes.now (sym c.replace.ensures.value ∙ c.in-After.is) c.requires.inside c.requires.close c.requires.some
    c.in_ok-end_set-in-After.ensures

pub returns-in_ok-end_set-in-Digits : goal.returns-in_ok-end_set-in-Digits
returns-in_ok-end_set-in-Digits c =
    takes_set_number c.args.machine.now _ c.in-Digits.negative c.in-Digits.magnitude _ c.args.bytes.now (sym c.replace.ensures.value ∙ c.in-Digits.is)
    c.number-value.ensures c.requires.inside c.requires.close c.requires.some c.in_ok-end_set-in-Digits.ensures
