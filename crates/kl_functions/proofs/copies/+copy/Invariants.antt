use Rattle.std.proofs.Common.{◌≡◌, take}
use Rattle.kl_functions.proofs.copies.+copy.Given as goal

abbrev pub invariant-pattern_copies-fields : goal.invariant-pattern_copies-fields
invariant-pattern_copies-fields l = l.copies.items ≡ take l.field-index l.fields
