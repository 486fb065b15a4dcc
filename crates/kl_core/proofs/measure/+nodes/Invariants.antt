use Rattle.std.proofs.Common.{◌≡◌, ◌+◌, ◌-◌, ◌^◌, ◌≤◌, min, drop}
use Rattle.kl_core.specs.Trees.{trees_view, parts_view}
use Rattle.kl_core.specs.Counts.{nodes_trees, nodes_parts}
use Rattle.kl_core.proofs.measure.+nodes.Given as goal

abbrev pub invariant-nodes_all-loop-term : goal.invariant-nodes_all-loop-term
invariant-nodes_all-loop-term l = (l.count ≤ 2 ^ 64 - 1) × (min (l.count + nodes_trees (trees_view (drop l.term-index l.terms))) (2 ^ 64 - 1) ≡ min (nodes_trees (trees_view l.terms)) (2 ^ 64 - 1))

abbrev pub invariant-nodes_labelled-loop-part : goal.invariant-nodes_labelled-loop-part
invariant-nodes_labelled-loop-part l = (l.count ≤ 2 ^ 64 - 1) × (min (l.count + nodes_parts (parts_view (drop l.part-index l.parts))) (2 ^ 64 - 1) ≡ min (nodes_parts (parts_view l.parts)) (2 ^ 64 - 1))
