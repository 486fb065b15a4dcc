use Rattle.std.proofs.Common.{take}
use Rattle.kl_scope.specs.Walks.{ExprsFront, FieldsFront, QualsFront, BranchesFront, StepsFront}
use Rattle.kl_scope.proofs.walk.Walk.+walk.Given as goal

abbrev pub invariant-items-items : goal.invariant-items-items
invariant-items-items l = record { unvisited : goal.unvisited-items-items l; walked : ExprsFront (take l.i l.initial.items) (take l.i l.items) l.initial.self l.self }

abbrev pub invariant-record-fields : goal.invariant-record-fields
invariant-record-fields l = record { unvisited : goal.unvisited-record-fields l; walked : FieldsFront (take l.i l.initial.entries) (take l.i l.entries) l.initial.self l.self }

abbrev pub invariant-quals-quals : goal.invariant-quals-quals
invariant-quals-quals l = record { unvisited : goal.unvisited-quals-quals l; walked : QualsFront (take l.i l.initial.quals) (take l.i l.quals) l.initial.self l.self }

abbrev pub invariant-branches-branches : goal.invariant-branches-branches
invariant-branches-branches l = record { unvisited : goal.unvisited-branches-branches l; walked : BranchesFront (take l.i l.initial.branches) (take l.i l.branches) l.initial.self l.self }

abbrev pub invariant-steps-steps : goal.invariant-steps-steps
invariant-steps-steps l = record { unvisited : goal.unvisited-steps-steps l; walked : StepsFront (take l.i l.initial.steps) (take l.i l.steps) l.initial.self l.self }
