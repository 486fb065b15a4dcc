use Rattle.std.proofs.Common.{◌≡◌, ◌-◌, ◌^◌, ◌≤◌, min, max, drop}
use Rattle.kl_core.specs.Trees.{trees_view, parts_view}
use Rattle.kl_core.specs.Counts.{depth_trees, depth_parts}
use Rattle.kl_core.proofs.measure.+depth.Given as goal

abbrev pub invariant-depth_all-loop-term : goal.invariant-depth_all-loop-term
invariant-depth_all-loop-term l = (l.most ≤ 2 ^ 64 - 1) × (min (max l.most (depth_trees (trees_view (drop l.term-index l.terms)))) (2 ^ 64 - 1) ≡ min (depth_trees (trees_view l.terms)) (2 ^ 64 - 1))

abbrev pub invariant-depth_labelled-loop-part : goal.invariant-depth_labelled-loop-part
invariant-depth_labelled-loop-part l = (l.most ≤ 2 ^ 64 - 1) × (min (max l.most (depth_parts (parts_view (drop l.part-index l.parts)))) (2 ^ 64 - 1) ≡ min (depth_parts (parts_view l.parts)) (2 ^ 64 - 1))
