use Rattle.std.proofs.Common.{◌≡◌, ◌++◌, drop}
use Rattle.kl_syntax.specs.View.{patterns_view}
use Rattle.kl_ho.specs.Functions.{candidates_in}
use Rattle.kl_functions.specs.Occurrences.{pairs_of}
use Rattle.kl_functions.proofs.candidates.candidates_in.Given as goal

abbrev pub invariant-fields : goal.invariant-fields
invariant-fields l = pairs_of l.found.items ++ candidates_in (patterns_view (drop l.field-index l.fields)) ≡ candidates_in (patterns_view l.fields)
