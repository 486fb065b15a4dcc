use Rattle.std.proofs.Common.{◌∙◌, sym}
use Rattle.kl_exchange.proofs.SpanLemmas.{takes_item, takes_number}
use Rattle.kl_exchange.proofs.spans.take_item.Goals as goal

pub returns-in_ok-add_item-in-After : goal.returns-in_ok-add_item-in-After
returns-in_ok-add_item-in-After c =
    rw c.replace.ensures.after
    (takes_item c.args.machine.now c.in-After.value c.args.bytes.now _ (sym c.replace.ensures.value ∙ c.in-After.is) c.requires.inside c.requires.comma c.requires.some
    c.in_ok-add_item-in-After.ensures)

pub returns-in_ok-add_item-in-Digits : goal.returns-in_ok-add_item-in-Digits
returns-in_ok-add_item-in-Digits c =
    rw c.replace.ensures.after
    (takes_number c.args.machine.now c.in-Digits.negative c.in-Digits.magnitude _ c.args.bytes.now _ (sym c.replace.ensures.value ∙ c.in-Digits.is)
    c.number-value.ensures c.requires.inside c.requires.comma c.requires.some c.in_ok-add_item-in-Digits.ensures)
