use Rattle.std.proofs.Common.{◌≡◌, ◌++◌, drop}
use Rattle.kl_functions.specs.Occurrences.{names_of}
use Rattle.kl_functions.proofs.variables.add_all.Given as goal

abbrev pub invariant-added : goal.invariant-added
invariant-added l = names_of l.names.items ++ names_of (drop l.name-index l.added) ≡ names_of l.initial.names.items ++ names_of l.added
