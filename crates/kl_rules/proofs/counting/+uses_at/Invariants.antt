use Rattle.std.proofs.Common.{◌≡◌, ◌+◌, ◌-◌, ◌^◌, ◌≤◌, ℕ, min, drop}
use Rattle.kl_core.specs.Trees.{trees_view, parts_view}
use Rattle.kl_rules.specs.Guards.{uses_trees, uses_parts}
use Rattle.kl_rules.proofs.counting.+uses_at.Given as goal

abbrev pub invariant-uses_all-loop-term : goal.invariant-uses_all-loop-term
invariant-uses_all-loop-term l =
    (l.count ≤ 2) × ((n : ℕ) → min n (2 ^ 64 - 1) ≡ l.at → min (l.count + uses_trees n (trees_view (drop l.term-index l.terms))) 2 ≡ min (uses_trees n (trees_view l.terms)) 2)

abbrev pub invariant-uses_labelled-loop-part : goal.invariant-uses_labelled-loop-part
invariant-uses_labelled-loop-part l =
    (l.count ≤ 2) × ((n : ℕ) → min n (2 ^ 64 - 1) ≡ l.at → min (l.count + uses_parts n (parts_view (drop l.part-index l.parts))) 2 ≡ min (uses_parts n (parts_view l.parts)) 2)
