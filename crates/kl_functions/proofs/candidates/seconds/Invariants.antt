use Rattle.std.proofs.Common.{◌≡◌, ◌++◌, drop}
use Rattle.kl_functions.specs.Occurrences.{names_of, pairs_of, seconds_of}
use Rattle.kl_functions.proofs.candidates.seconds.Given as goal

abbrev pub invariant-fields : goal.invariant-fields
invariant-fields l = names_of l.names.items ++ seconds_of (pairs_of (drop l.field-index l.fields)) ≡ seconds_of (pairs_of l.fields)
