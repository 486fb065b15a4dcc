use Rattle.std.proofs.Common.{◌≡◌, drop}
use Rattle.kl_core.specs.Trees.{trees_view, parts_view}
use Rattle.kl_ship.specs.Reads.{reads_trees, reads_parts}
use Rattle.kl_ship.proofs.reads.+reads.Given as goal

abbrev pub invariant-reads_all-loop-term : goal.invariant-reads_all-loop-term
invariant-reads_all-loop-term l = reads_trees (trees_view (drop l.term-index l.terms)) ≡ reads_trees (trees_view l.terms)

abbrev pub invariant-reads_labelled-loop-part : goal.invariant-reads_labelled-loop-part
invariant-reads_labelled-loop-part l = reads_parts (parts_view (drop l.part-index l.parts)) ≡ reads_parts (parts_view l.parts)
