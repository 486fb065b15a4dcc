use Rattle.std.proofs.Common.{◌≡◌, drop}
use Rattle.kl_syntax.specs.View.{patterns_view}
use Rattle.kl_ho.specs.HoPrograms.{rest_in}
use Rattle.kl_ho.specs.Shapes.{names_after_all}
use Rattle.kl_functions.specs.Occurrences.{names_of}
use Rattle.kl_functions.proofs.hiding.enter_rest.Given as goal

abbrev pub invariant-fields : goal.invariant-fields
invariant-fields l =
    names_after_all (rest_in l.labels (patterns_view (drop l.field-index l.fields))) (names_of l.names.items) ≡ names_after_all (rest_in l.labels (patterns_view l.fields)) (names_of l.initial.names.items)
