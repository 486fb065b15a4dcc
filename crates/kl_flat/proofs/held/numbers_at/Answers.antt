use Rattle.std.proofs.Common.{FitsSigned, w64, get_or, pos, rules}
use Rattle.std.proofs.lemmas.Int.{to_z-of_z}
use Rattle.kl_flat.proofs.Kept.{copies_at}
use Rattle.kl_flat.proofs.held.numbers_at.Goals as goal

pub loop-place-preserved : goal.loop-place-preserved
loop-place-preserved c =
    let fits : FitsSigned w64 (get_or c.args.numbers.now (get_or c.args.places.now c.loop-place.place-index 0) (pos 0)) = search rules in
    copies_at c.args.numbers.now c.args.places.now c.loop-place.place-index (pos 0) c.loop-place.copies.items c.push.new.self.items
    c.loop-place-test.true (c.requires c.loop-place.place-index 0 c.loop-place-test.true) (simp to_z-of_z at c.in_ok-push.ensures.items) c.loop-place.invariant
