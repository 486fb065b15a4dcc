use Rattle.std.specs.Prelude.{IsSome}
use Rattle.measure.proofs.scans.pull_all.Given as goal

abbrev pub invariant-pulls : goal.invariant-pulls
invariant-pulls g l = IsSome ((g.D.Driver.state l.driver).cursors l.cursor)
