use Rattle.std.proofs.Common.{ap, ◌∙◌, ◌++◌}
use Rattle.kl_flat.proofs.Picking.{picks_text}
use Rattle.kl_flat.proofs.texts.Texts.picked.Goals as goal

pub loop-place-preserved : goal.loop-place-preserved
loop-place-preserved c =
    picks_text c.args.places.now c.loop-place.place-index c.args.self.now c.loop-place.picked c.push.new.self c.loop-place.invariant
    (c.in_ok-push.ensures.bytes ∙ ap (λ bytes. c.loop-place.picked.bytes.items ++ bytes) c.get.ensures) c.in_ok-push.ensures.ends
