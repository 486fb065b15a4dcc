use Rattle.std.proofs.Common.{◌≡◌, ◌-◌, ◌^◌, ℕ, min, drop}
use Rattle.kl_ship.specs.Delegation.{whole_use_trees, whole_use_parts}
use Rattle.kl_plan.specs.Erased.{erased_nodes, erased_fields}
use Rattle.kl_plan.specs.Nodes.{nodes_view, fields_view}
use Rattle.kl_ship.proofs.erased.+uses_whole.Given as goal

abbrev pub invariant-uses_whole_all-loop-plan : goal.invariant-uses_whole_all-loop-plan
invariant-uses_whole_all-loop-plan l = (n : ℕ) → min n (2 ^ 64 - 1) ≡ l.at → whole_use_trees n (erased_nodes (nodes_view (drop l.plan-index l.plans))) ≡ whole_use_trees n (erased_nodes (nodes_view l.plans))

abbrev pub invariant-uses_whole_labelled-loop-part : goal.invariant-uses_whole_labelled-loop-part
invariant-uses_whole_labelled-loop-part l = (n : ℕ) → min n (2 ^ 64 - 1) ≡ l.at → whole_use_parts n (erased_fields (fields_view (drop l.part-index l.parts))) ≡ whole_use_parts n (erased_fields (fields_view l.parts))
