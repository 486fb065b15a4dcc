use Rattle.std.proofs.Common.{◌∷◌, ◌∙◌, sym, ap}
use Rattle.kl_exchange.specs.declared.machine.Frame.TheVariants as frame
use Rattle.kl_exchange.proofs.SpanLemmas.{takes_first_named}
use Rattle.kl_exchange.proofs.spans.take_first_label.Goals as goal

pub returns : goal.returns
returns c =
    rw c.turn.ensures
    (takes_first_named c.args.machine.now c.in-Some.name.now c.in-Some-2.label c.args.bytes.now _ c.requires c.in-Some.ensures (sym c.in-Some-2.is ∙ c.in_ok-label.ensures)
    (c.in_ok-push.ensures ∙ ap (λ fs. frame.Field fs c.in-Some-2.label ∷ c.args.machine.now.stack) c.in_ok-fields.ensures))
