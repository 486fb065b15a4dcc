use Rattle.std.proofs.Common.{◌≡◌, ◌++◌, drop}
use Rattle.kl_functions.specs.Occurrences.{names_of}
use Rattle.kl_functions.specs.Rounds.{facts_of, still_unmade}
use Rattle.kl_functions.proofs.functions.still_unmade.Given as goal

abbrev pub invariant-unmade : goal.invariant-unmade
invariant-unmade l = names_of l.next.items ++ still_unmade (facts_of l.round) (names_of (drop l.x-index l.unmade)) ≡ still_unmade (facts_of l.round) (names_of l.unmade)
