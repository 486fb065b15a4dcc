use Rattle.std.proofs.Common.{◌-◌, length}
use Rattle.kl_rows.specs.Looking.{SpotsOn}
use Rattle.kl_rows.proofs.looking.spot_of.Given as goal

abbrev pub invariant-steps : goal.invariant-steps
invariant-steps l = SpotsOn l.cells l.row l.label l.end (length l.cells - l.step)
