use Rattle.std.proofs.Common.{◌≡◌, drop}
use Rattle.kl_plan.specs.Nodes.{fields_view, nodes_view}
use Rattle.kl_plan.specs.Numbers.{scans_of_fields, scans_of_nodes}
use Rattle.kl_joins.specs.Reading.{some}
use Rattle.kl_joins.proofs.frees.+reads.Given as goal

abbrev pub invariant-reads_all-plans : goal.invariant-reads_all-plans
invariant-reads_all-plans l = some (scans_of_nodes (nodes_view l.plans)) ≡ some (scans_of_nodes (nodes_view (drop l.plan-index l.plans)))

abbrev pub invariant-reads_labelled-parts : goal.invariant-reads_labelled-parts
invariant-reads_labelled-parts l = some (scans_of_fields (fields_view l.parts)) ≡ some
    (scans_of_fields (fields_view (drop l.part-index l.parts)))
