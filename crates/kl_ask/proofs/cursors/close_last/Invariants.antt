use Rattle.std.proofs.Common.{◌≡◌, ℕ, length}
use Rattle.kl_ask.specs.Cursors.{open_at}
use Rattle.kl_ask.proofs.cursors.close_last.Given as goal

abbrev pub invariant-places : goal.invariant-places
invariant-places g l = (k : ℕ) → open_at l.cursors.items k ≡ open_at l.fn.cursors.items k

abbrev pub decreases-places : goal.decreases-places
decreases-places g l = length l.cursors.items
