use Rattle.std.proofs.Common.{take}
use Rattle.kl_scope.specs.Walks.{PatternsFront}
use Rattle.kl_scope.proofs.walk.Walk.+pattern.Given as goal

abbrev pub invariant-patterns-fields : goal.invariant-patterns-fields
invariant-patterns-fields l = record { unvisited : goal.unvisited-patterns-fields l; walked : PatternsFront (take l.i l.initial.fields) (take l.i l.fields) l.initial.self l.self }
