use Rattle.std.proofs.Common.{◌≡◌, drop}
use Rattle.kl_core.specs.Trees.{trees_view, parts_view}
use Rattle.kl_rules.specs.Sameness.{same_trees, same_parts}
use Rattle.kl_rules.proofs.sameness.+same.Given as goal

abbrev pub invariant-same_all-loop-i : goal.invariant-same_all-loop-i
invariant-same_all-loop-i l = same_trees (trees_view (drop l.i l.ts)) (trees_view (drop l.i l.us)) ≡ same_trees (trees_view l.ts) (trees_view l.us)

abbrev pub invariant-same_labelled-loop-i : goal.invariant-same_labelled-loop-i
invariant-same_labelled-loop-i l = same_parts (parts_view (drop l.i l.ps)) (parts_view (drop l.i l.qs)) ≡ same_parts (parts_view l.ps) (parts_view l.qs)
