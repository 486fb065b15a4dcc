use Rattle.std.proofs.Common.{◌≡◌, ◌++◌, drop}
use Rattle.kl_syntax.specs.View.{patterns_view}
use Rattle.kl_scope.specs.Patterns.{variables_all}
use Rattle.kl_ho.specs.Expansion.{texts}
use Rattle.kl_functions.specs.Occurrences.{names_of}
use Rattle.kl_functions.proofs.variables.+variables.Given as goal

abbrev pub invariant-variables_all-fields : goal.invariant-variables_all-fields
invariant-variables_all-fields l =
    names_of l.names.items ++ texts (variables_all (patterns_view (drop l.field-index l.fields))) ≡ names_of l.initial.names.items ++ texts (variables_all (patterns_view l.fields))
