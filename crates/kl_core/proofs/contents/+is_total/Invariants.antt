use Rattle.std.proofs.Common.{◌≡◌, drop}
use Rattle.kl_core.specs.Trees.{trees_view, parts_view}
use Rattle.kl_core.specs.Counts.{total_trees, total_parts}
use Rattle.kl_core.proofs.contents.+is_total.Given as goal

abbrev pub invariant-are_total-loop-term : goal.invariant-are_total-loop-term
invariant-are_total-loop-term l = total_trees (trees_view (drop l.term-index l.terms)) ≡ total_trees (trees_view l.terms)

abbrev pub invariant-are_total_labelled-loop-part : goal.invariant-are_total_labelled-loop-part
invariant-are_total_labelled-loop-part l = total_parts (parts_view (drop l.part-index l.parts)) ≡ total_parts (parts_view l.parts)
