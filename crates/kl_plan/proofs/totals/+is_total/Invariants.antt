use Rattle.std.proofs.Common.{◌≡◌, drop}
use Rattle.kl_core.specs.Counts.{total_trees, total_parts}
use Rattle.kl_plan.specs.Erased.{erased_nodes, erased_fields}
use Rattle.kl_plan.specs.Nodes.{nodes_view, fields_view}
use Rattle.kl_plan.proofs.totals.+is_total.Given as goal

abbrev pub invariant-are_total-loop-plan : goal.invariant-are_total-loop-plan
invariant-are_total-loop-plan l = total_trees (erased_nodes (nodes_view (drop l.plan-index l.plans))) ≡ total_trees (erased_nodes (nodes_view l.plans))

abbrev pub invariant-are_total_labelled-loop-part : goal.invariant-are_total_labelled-loop-part
invariant-are_total_labelled-loop-part l = total_parts (erased_fields (fields_view (drop l.part-index l.parts))) ≡ total_parts (erased_fields (fields_view l.parts))
