use Rattle.std.proofs.Common.{◌≡◌, ◌++◌, drop}
use Rattle.kl_syntax.specs.View.{fields_view}
use Rattle.kl_functions.specs.Occurrences.{names_of, roles_of, referents}
use Rattle.kl_functions.proofs.occurrences.Parameter.literal.Given as goal

abbrev pub invariant-fields : goal.invariant-fields
invariant-fields l =
    l.literal.items ++ referents (roles_of l.self) (fields_view (drop l.field-index l.fields)) (names_of l.hiding) ≡ referents (roles_of l.self) (fields_view l.fields) (names_of l.hiding)
