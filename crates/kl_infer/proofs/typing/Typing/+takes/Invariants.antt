use Rattle.std.proofs.Common.{drop, map}
use Rattle.kl_syntax.specs.View.{patterns_view}
use Rattle.kl_meaning.specs.Typing.{NameTypes}
use Rattle.kl_infer.specs.Asking.{cells, Binding, context}
use Rattle.kl_infer.specs.Names.{TakesAll, names, sorts}
use Rattle.kl_infer.proofs.typing.Typing.+takes.Given as goal

abbrev pub invariant-takes_fields-fields : goal.invariant-takes_fields-fields
invariant-takes_fields-fields l =
    Binding (cells l.initial.self) (cells l.self) l.initial.bound.items l.bound.items (names l.outside)
    (λ s. TakesAll (patterns_view l.fields) (NameTypes (sorts l.known) (context s (names l.outside))) (map s.types l.types))
    (λ s. TakesAll (patterns_view (drop l.i l.fields)) (NameTypes (sorts l.known) (context s (names l.outside))) (map s.types (drop l.i l.types)))
