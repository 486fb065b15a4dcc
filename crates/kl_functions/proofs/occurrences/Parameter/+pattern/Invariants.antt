use Rattle.std.proofs.Common.{◌≡◌, ◌++◌, drop}
use Rattle.kl_syntax.specs.View.{patterns_view}
use Rattle.kl_functions.specs.Occurrences.{names_of, roles_of, patterns_occurrences}
use Rattle.kl_functions.proofs.occurrences.Parameter.+pattern.Given as goal

abbrev pub invariant-patterns-fields : goal.invariant-patterns-fields
invariant-patterns-fields l =
    l.found.items ++ patterns_occurrences (roles_of l.self) (patterns_view (drop l.field-index l.fields)) (names_of l.hiding)
    ≡ l.initial.found.items ++ patterns_occurrences (roles_of l.self) (patterns_view l.fields) (names_of l.hiding)
