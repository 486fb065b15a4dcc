use Rattle.std.proofs.Common.{drop}
use Rattle.kl_plan.specs.Nodes.{nodes_view, fields_view}
use Rattle.kl_tools.proofs.Telling.{AreLeft, FieldsLeft}
use Rattle.kl_tools.proofs.explaining.+tell.Given as goal

abbrev pub invariant-tell_all-plans : goal.invariant-tell_all-plans
invariant-tell_all-plans l = AreLeft l.names (nodes_view (drop l.plan-index l.plans)) (nodes_view l.plans) l.fn.lines l.lines

abbrev pub invariant-tell_labelled-parts : goal.invariant-tell_labelled-parts
invariant-tell_labelled-parts l = FieldsLeft l.names (fields_view (drop l.part-index l.parts)) (fields_view l.parts) l.fn.lines l.lines
