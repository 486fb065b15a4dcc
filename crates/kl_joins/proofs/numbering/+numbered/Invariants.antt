use Rattle.std.proofs.Common.{take}
use Rattle.kl_plan.specs.Nodes.{nodes_view, fields_view}
use Rattle.kl_joins.specs.Numbering.{EachNumbered, FieldsNumbered}
use Rattle.kl_joins.proofs.numbering.+numbered.Given as goal

abbrev pub invariant-number_all-plans : goal.invariant-number_all-plans
invariant-number_all-plans l = record {
  unvisited : goal.unvisited-number_all-plans l;
  numbered : EachNumbered l.initial.numbers l.numbers (nodes_view (take l.i l.initial.plans)) (nodes_view (take l.i l.plans));
}

abbrev pub invariant-number_labelled-parts : goal.invariant-number_labelled-parts
invariant-number_labelled-parts l = record {
  unvisited : goal.unvisited-number_labelled-parts l;
  numbered : FieldsNumbered l.initial.numbers l.numbers (fields_view (take l.i l.initial.parts)) (fields_view (take l.i l.parts));
}
