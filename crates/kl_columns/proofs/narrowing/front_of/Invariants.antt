use Rattle.std.proofs.Common.{◌≡◌, length, reverse}
use Rattle.kl_flat.specs.Cells.{past_blanks}
use Rattle.kl_columns.proofs.narrowing.front_of.Given as goal

abbrev pub invariant-back : goal.invariant-back
invariant-back l = reverse (past_blanks (reverse l.cell)) ≡ reverse (past_blanks (reverse l.rest))

abbrev pub decreases-back : goal.decreases-back
decreases-back l = length l.rest
