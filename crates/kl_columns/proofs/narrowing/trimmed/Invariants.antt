use Rattle.std.proofs.Common.{◌≡◌, length}
use Rattle.kl_flat.specs.Cells.{past_blanks}
use Rattle.kl_columns.proofs.narrowing.trimmed.Given as goal

abbrev pub invariant-front : goal.invariant-front
invariant-front l = past_blanks l.cell ≡ past_blanks l.rest

abbrev pub decreases-front : goal.decreases-front
decreases-front l = length l.rest
