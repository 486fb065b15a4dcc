use Rattle.std.proofs.Common.{ap, ◌∙◌}
use Rattle.kl_syntax.specs.View.{pattern_view, view}
use Rattle.kl_functions.specs.Known.{fields_in, functions_of}
use Rattle.kl_functions.specs.Occurrences.{names_of}
use Rattle.kl_functions.proofs.Paraming.{body_made}
use Rattle.kl_functions.proofs.programs.function_copy.Goals as goal

pub returns-clause-body : goal.returns-clause-body
returns-clause-body c =
    body_made (fields_in c.args.all.now) (functions_of c.args.before.known.now c.args.before.sources.now) c.args.def.now.name.text (pattern_view c.args.pattern.now) (view c.args.def.now.body) (view c.in_ok-body.body)
    c.labels_of-labels.result.now (names_of c.deref.result.now) (names_of c.deref-2.result.now) c.labels_of-labels.ensures (ap names_of c.deref.ensures.value ∙ c.in_ok-params.ensures)
    (ap names_of c.deref-2.ensures.value ∙ c.in_ok-hiding.ensures) c.in_ok-body.ensures
