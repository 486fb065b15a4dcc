use Rattle.std.proofs.Common.{◌∷◌, ◌∙◌, sym, ap}
use Rattle.kl_exchange.proofs.SpanLemmas.{takes_named}
use Rattle.kl_exchange.proofs.spans.take_named.Goals as goal

pub returns-in_ok-push-in-Label : goal.returns-in_ok-push-in-Label
returns-in_ok-push-in-Label c =
    rw c.replace.ensures.after
    (takes_named c.args.machine.now c.in-Label.holder c.args.name.now c.in-Some.label c.args.bytes.now _ (sym c.replace.ensures.value ∙ c.in-Label.is) c.requires
    (sym c.in-Some.is ∙ c.in_ok-label.ensures) (sym c.has_named.ensures ∙ c.if-has_named.false)
    (c.in_ok-push-in-Label.ensures ∙ ap (λ f. f ∷ c.args.machine.now.stack) c.frame_of.ensures))
