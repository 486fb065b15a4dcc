use Rattle.std.proofs.Common.{◌≡◌, ◌-◌, ◌^◌, ℕ, min, drop}
use Rattle.kl_ship.specs.Delegation.{column_use_trees, column_use_parts}
use Rattle.kl_plan.specs.Erased.{erased_nodes, erased_fields}
use Rattle.kl_plan.specs.Nodes.{nodes_view, fields_view}
use Rattle.kl_ship.proofs.erased.+uses_column.Given as goal

abbrev pub invariant-uses_column_all-loop-plan : goal.invariant-uses_column_all-loop-plan
invariant-uses_column_all-loop-plan l = (n : ℕ) → min n (2 ^ 64 - 1) ≡ l.at → column_use_trees n l.label (erased_nodes (nodes_view (drop l.plan-index l.plans))) ≡ column_use_trees n l.label (erased_nodes (nodes_view l.plans))

abbrev pub invariant-uses_column_labelled-loop-part : goal.invariant-uses_column_labelled-loop-part
invariant-uses_column_labelled-loop-part l = (n : ℕ) → min n (2 ^ 64 - 1) ≡ l.at → column_use_parts n l.label (erased_fields (fields_view (drop l.part-index l.parts))) ≡ column_use_parts n l.label (erased_fields (fields_view l.parts))
