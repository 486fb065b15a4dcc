use Rattle.std.proofs.Common.{◌≡◌, ◌-◌, ◌^◌, ◌≤◌, max, min, drop}
use Rattle.kl_plan.specs.Nodes.{nodes_view, fields_view}
use Rattle.kl_joins.specs.Keeping.{binders_of_nodes, binders_of_fields}
use Rattle.kl_joins.proofs.depths.+deep.Given as goal

abbrev pub invariant-deep_all-plans : goal.invariant-deep_all-plans
invariant-deep_all-plans l = (l.depth ≤ 2 ^ 32 - 1)
    × (min (max l.depth (binders_of_nodes (nodes_view (drop l.plan-index l.plans)))) (2 ^ 32 - 1) ≡ min (binders_of_nodes (nodes_view l.plans)) (2 ^ 32 - 1))

abbrev pub invariant-deep_labelled-parts : goal.invariant-deep_labelled-parts
invariant-deep_labelled-parts l = (l.depth ≤ 2 ^ 32 - 1)
    × (min (max l.depth (binders_of_fields (fields_view (drop l.part-index l.parts)))) (2 ^ 32 - 1) ≡ min (binders_of_fields (fields_view l.parts)) (2 ^ 32 - 1))
