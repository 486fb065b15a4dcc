use Rattle.std.proofs.Common.{map, take}
use Rattle.std.specs.List.{zip}
use Rattle.kl_engine.specs.Running.{ListsAll}
use Rattle.kl_engine.proofs.types.list_definitions.Given as goal

abbrev pub invariant-lines : goal.invariant-lines
invariant-lines g l = ListsAll (take l.i (zip (map (λ d. d.name.text) l.defs) l.schemes)) (g.S.Sink.state l.initial.out) (g.S.Sink.state l.out)
