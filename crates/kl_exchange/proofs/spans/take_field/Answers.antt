use Rattle.std.proofs.Common.{◌∙◌, sym}
use Rattle.kl_exchange.proofs.SpanLemmas.{takes_field, takes_field_number}
use Rattle.kl_exchange.proofs.spans.take_field.Goals as goal

pub returns-in_ok-add_field-in-After : goal.returns-in_ok-add_field-in-After
returns-in_ok-add_field-in-After c =
    takes_field c.args.machine.now _ c.in-After.value c.args.bytes.now (sym c.replace.ensures.value ∙ c.in-After.is) c.requires.inside c.requires.comma c.requires.some
    c.in_ok-add_field-in-After.ensures

pub returns-in_ok-add_field-in-Digits : goal.returns-in_ok-add_field-in-Digits
returns-in_ok-add_field-in-Digits c =
    takes_field_number c.args.machine.now _ c.in-Digits.negative c.in-Digits.magnitude _ c.args.bytes.now (sym c.replace.ensures.value ∙ c.in-Digits.is)
    c.number-value.ensures c.requires.inside c.requires.comma c.requires.some c.in_ok-add_field-in-Digits.ensures
