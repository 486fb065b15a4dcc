use Rattle.std.proofs.Common.{◌≡◌, ◌-◌, ◌^◌, ℕ, min, drop}
use Rattle.kl_plan.specs.Nodes.{nodes_view, fields_view}
use Rattle.kl_plan.specs.Occurs.{occurs_nodes, occurs_fields}
use Rattle.kl_joins.proofs.frees.+stands.Given as goal

abbrev pub invariant-stands_all-loop-plan : goal.invariant-stands_all-loop-plan
invariant-stands_all-loop-plan l = (n : ℕ) → min n (2 ^ 64 - 1) ≡ l.at
    → occurs_nodes n (nodes_view (drop l.plan-index l.plans)) ≡ occurs_nodes n (nodes_view l.plans)

abbrev pub invariant-stands_labelled-loop-part : goal.invariant-stands_labelled-loop-part
invariant-stands_labelled-loop-part l = (n : ℕ) → min n (2 ^ 64 - 1) ≡ l.at
    → occurs_fields n (fields_view (drop l.part-index l.parts)) ≡ occurs_fields n (fields_view l.parts)
