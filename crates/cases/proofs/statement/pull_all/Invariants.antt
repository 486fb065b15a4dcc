use Rattle.std.specs.Prelude.{IsSome}
use Rattle.cases.proofs.statement.pull_all.Given as goal

abbrev pub invariant-pulls : goal.invariant-pulls
invariant-pulls g l = IsSome ((g.D.Driver.state l.driver).cursors l.cursor)
