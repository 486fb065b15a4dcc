use Rattle.std.proofs.Common.{◌≡◌, ◌++◌, drop}
use Rattle.kl_functions.specs.Known.{settled_labels}
use Rattle.kl_functions.specs.Occurrences.{names_of, pairs_of}
use Rattle.kl_functions.proofs.functions.settled_labels.Given as goal

abbrev pub invariant-fields : goal.invariant-fields
invariant-fields l = l.labels.items ++ settled_labels (names_of l.unmade) (pairs_of (drop l.field-index l.fields)) ≡ settled_labels (names_of l.unmade) (pairs_of l.fields)
