use Rattle.std.proofs.Common.{◌≡◌, ◌-◌, ◌^◌, ℕ, min, drop}
use Rattle.kl_core.specs.Trees.{trees_view, parts_view}
use Rattle.kl_ship.specs.Delegation.{whole_use_trees, whole_use_parts}
use Rattle.kl_ship.proofs.conditions.+uses_whole.Given as goal

abbrev pub invariant-uses_whole_all-loop-term : goal.invariant-uses_whole_all-loop-term
invariant-uses_whole_all-loop-term l = (n : ℕ) → min n (2 ^ 64 - 1) ≡ l.at → whole_use_trees n (trees_view (drop l.term-index l.terms)) ≡ whole_use_trees n (trees_view l.terms)

abbrev pub invariant-uses_whole_labelled-loop-part : goal.invariant-uses_whole_labelled-loop-part
invariant-uses_whole_labelled-loop-part l = (n : ℕ) → min n (2 ^ 64 - 1) ≡ l.at → whole_use_parts n (parts_view (drop l.part-index l.parts)) ≡ whole_use_parts n (parts_view l.parts)
