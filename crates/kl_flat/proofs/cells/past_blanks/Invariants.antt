use Rattle.std.proofs.Common.{◌≡◌, length}
use Rattle.kl_flat.specs.Cells.{past_blanks}
use Rattle.kl_flat.proofs.cells.past_blanks.Given as goal

abbrev pub invariant-front : goal.invariant-front
invariant-front l = past_blanks l.bytes ≡ past_blanks l.rest

abbrev pub decreases-front : goal.decreases-front
decreases-front l = length l.rest
