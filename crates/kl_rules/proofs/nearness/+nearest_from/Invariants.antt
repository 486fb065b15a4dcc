use Rattle.std.proofs.Common.{◌≡◌, ◌-◌, ◌^◌, ℕ, min, drop}
use Rattle.kl_core.specs.Trees.{trees_view, parts_view}
use Rattle.kl_rules.specs.Nearness.{least, nearest_trees, nearest_parts}
use Rattle.kl_rules.proofs.nearness.+nearest_from.Given as goal

abbrev pub invariant-nearest_of-loop-term : goal.invariant-nearest_of-loop-term
invariant-nearest_of-loop-term l = (n : ℕ) → min n (2 ^ 64 - 1) ≡ l.from → least l.near (nearest_trees n (trees_view (drop l.term-index l.terms))) ≡ nearest_trees n (trees_view l.terms)

abbrev pub invariant-nearest_labelled-loop-part : goal.invariant-nearest_labelled-loop-part
invariant-nearest_labelled-loop-part l = (n : ℕ) → min n (2 ^ 64 - 1) ≡ l.from → least l.near (nearest_parts n (parts_view (drop l.part-index l.parts))) ≡ nearest_parts n (parts_view l.parts)
