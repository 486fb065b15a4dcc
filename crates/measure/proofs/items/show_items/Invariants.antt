use Rattle.std.specs.Prelude.{IsSome}
use Rattle.measure.proofs.items.show_items.Given as goal

abbrev pub invariant-items : goal.invariant-items
invariant-items g l = IsSome ((g.F.Files.state l.files).left l.items.file)
