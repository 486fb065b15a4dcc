use Rattle.std.proofs.Common.{◌≡◌, drop}
use Rattle.kl_plan.specs.Nodes.{fields_view, nodes_view}
use Rattle.kl_cursor.specs.Pulling.{has_scan_fields, has_scan_nodes}
use Rattle.kl_cursor.proofs.pulling.+scan.Given as goal

abbrev pub invariant-has_scan_all-plans : goal.invariant-has_scan_all-plans
invariant-has_scan_all-plans l = has_scan_nodes (nodes_view l.plans) ≡ has_scan_nodes (nodes_view (drop l.plan-index l.plans))

abbrev pub invariant-has_scan_labelled-parts : goal.invariant-has_scan_labelled-parts
invariant-has_scan_labelled-parts l = has_scan_fields (fields_view l.parts) ≡ has_scan_fields (fields_view (drop l.part-index l.parts))
