use Rattle.std.proofs.Common.{◌≡◌, drop}
use Rattle.kl_core.specs.Trees.{trees_view, parts_view}
use Rattle.kl_rules.specs.Guards.{plain_trees, plain_parts}
use Rattle.kl_rules.proofs.plainness.+is_plain.Given as goal

abbrev pub invariant-are_plain-loop-term : goal.invariant-are_plain-loop-term
invariant-are_plain-loop-term l = plain_trees (trees_view (drop l.term-index l.terms)) ≡ plain_trees (trees_view l.terms)

abbrev pub invariant-are_plain_labelled-loop-part : goal.invariant-are_plain_labelled-loop-part
invariant-are_plain_labelled-loop-part l = plain_parts (parts_view (drop l.part-index l.parts)) ≡ plain_parts (parts_view l.parts)
