use Rattle.std.proofs.Common.{false}
use Rattle.kl_flat.proofs.Kept.{copies_at}
use Rattle.kl_flat.proofs.held.truths_at.Goals as goal

pub loop-place-preserved : goal.loop-place-preserved
loop-place-preserved c =
    copies_at c.args.truths.now c.args.places.now c.loop-place.place-index false c.loop-place.copies.items c.push.new.self.items
    c.loop-place-test.true (c.requires c.loop-place.place-index 0 c.loop-place-test.true) c.in_ok-push.ensures.items c.loop-place.invariant
