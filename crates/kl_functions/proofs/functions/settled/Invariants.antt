use Rattle.std.proofs.Common.{length}
use Rattle.kl_functions.specs.Occurrences.{names_of}
use Rattle.kl_functions.specs.Rounds.{facts_in, AreMade}
use Rattle.kl_functions.proofs.functions.settled.Given as goal

abbrev pub invariant-rounds : goal.invariant-rounds
invariant-rounds l = AreMade (facts_in l.before l.found l.unmade.items) (names_of l.candidates)

abbrev pub decreases-rounds : goal.decreases-rounds
decreases-rounds l = length l.unmade.items
