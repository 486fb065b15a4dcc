use Rattle.std.proofs.Common.{◌≡◌, length, reverse}
use Rattle.kl_flat.specs.Cells.{past_blanks, without_blanks}
use Rattle.kl_flat.proofs.cells.without_blanks.Given as goal

abbrev pub invariant-back : goal.invariant-back
invariant-back l = without_blanks l.bytes ≡ reverse (past_blanks (reverse l.rest))

abbrev pub decreases-back : goal.decreases-back
decreases-back l = length l.rest
