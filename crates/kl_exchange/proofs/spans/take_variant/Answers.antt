use Rattle.std.proofs.Common.{◌∙◌, sym}
use Rattle.kl_exchange.proofs.SpanLemmas.{takes_variant_end, takes_variant_number}
use Rattle.kl_exchange.proofs.spans.take_variant.Goals as goal

pub returns-in_ok-end_variant-in-After : goal.returns-in_ok-end_variant-in-After
returns-in_ok-end_variant-in-After c =
    takes_variant_end c.args.machine.now _ c.in-After.value c.args.bytes.now (sym c.replace.ensures.value ∙ c.in-After.is) c.requires.inside c.requires.close c.requires.some
    c.in_ok-end_variant-in-After.ensures

pub returns-in_ok-end_variant-in-Digits : goal.returns-in_ok-end_variant-in-Digits
returns-in_ok-end_variant-in-Digits c =
    takes_variant_number c.args.machine.now _ c.in-Digits.negative c.in-Digits.magnitude _ c.args.bytes.now (sym c.replace.ensures.value ∙ c.in-Digits.is)
    c.number-value.ensures c.requires.inside c.requires.close c.requires.some c.in_ok-end_variant-in-Digits.ensures
