use Rattle.std.proofs.Common.{false, List, [], ◌++◌, ap, ◌∙◌}
use Rattle.kl_syntax.specs.View.{pattern_view, view}
use Rattle.kl_functions.specs.declared.occurrences.Occurrence.{Occurrence}
use Rattle.kl_functions.specs.Occurrences.{roles_of, occurrences}
use Rattle.kl_functions.proofs.Settling.{fields_done}
use Rattle.kl_functions.proofs.functions.function_fields.Goals as goal

pub returns : goal.returns
returns c =
    fields_done c.settled_labels.result c.args.before (pattern_view c.args.pattern.now) (view c.args.body.now) c.in_ok-parameter.parameter c.in_ok-fields.fields.items c.deref.result.now c.deref-4.result.now c.expr.new.found.items c.deref-2.result.now
    c.in_ok-unmade.unmade.items c.deref-5.result.now c.deref-3.result.now c.deref.ensures.value c.deref-2.ensures.value c.deref-3.ensures.value c.deref-4.ensures.value c.deref-5.ensures.value c.in_ok-parameter.ensures.variables c.in_ok-fields.ensures
    c.in_ok-parameter.ensures.candidates
    (c.in_ok-expr.ensures ∙ ap (λ (z : List Occurrence). z ++ occurrences (roles_of c.in_ok-parameter.parameter) (view c.args.body.now) false []) c.new-found.ensures.items) c.in_ok-unmade.ensures c.settled_labels.ensures
