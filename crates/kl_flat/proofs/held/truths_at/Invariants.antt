use Rattle.std.proofs.Common.{◌≡◌, Some, map, slice_get, take}
use Rattle.kl_flat.proofs.held.truths_at.Given as goal

abbrev pub invariant-loop-place : goal.invariant-loop-place
invariant-loop-place l = map Some l.copies.items ≡ map (slice_get l.truths) (take l.place-index l.places)
