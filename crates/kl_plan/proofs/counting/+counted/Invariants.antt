use Rattle.std.proofs.Common.{◌≡◌, ◌+◌, ◌-◌, ◌^◌, ◌≤◌, min, drop, length}
use Rattle.kl_plan.specs.Nodes.{nodes_view, fields_view}
use Rattle.kl_plan.specs.Numbers.{scans_of_nodes, scans_of_fields}
use Rattle.kl_plan.proofs.counting.+counted.Given as goal

abbrev pub invariant-counted_all-plans : goal.invariant-counted_all-plans
invariant-counted_all-plans l = (l.count ≤ 2 ^ 32 - 1) × (min (l.count + length (scans_of_nodes (nodes_view (drop l.plan-index l.plans)))) (2 ^ 32 - 1) ≡ min (length (scans_of_nodes (nodes_view l.plans))) (2 ^ 32 - 1))

abbrev pub invariant-counted_labelled-parts : goal.invariant-counted_labelled-parts
invariant-counted_labelled-parts l = (l.count ≤ 2 ^ 32 - 1) × (min (l.count + length (scans_of_fields (fields_view (drop l.part-index l.parts)))) (2 ^ 32 - 1) ≡ min (length (scans_of_fields (fields_view l.parts))) (2 ^ 32 - 1))
