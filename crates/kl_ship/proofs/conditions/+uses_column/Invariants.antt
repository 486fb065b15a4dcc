use Rattle.std.proofs.Common.{◌≡◌, ◌-◌, ◌^◌, ℕ, min, drop}
use Rattle.kl_core.specs.Trees.{trees_view, parts_view}
use Rattle.kl_ship.specs.Delegation.{column_use_trees, column_use_parts}
use Rattle.kl_ship.proofs.conditions.+uses_column.Given as goal

abbrev pub invariant-uses_column_all-loop-term : goal.invariant-uses_column_all-loop-term
invariant-uses_column_all-loop-term l = (n : ℕ) → min n (2 ^ 64 - 1) ≡ l.at → column_use_trees n l.label (trees_view (drop l.term-index l.terms)) ≡ column_use_trees n l.label (trees_view l.terms)

abbrev pub invariant-uses_column_labelled-loop-part : goal.invariant-uses_column_labelled-loop-part
invariant-uses_column_labelled-loop-part l = (n : ℕ) → min n (2 ^ 64 - 1) ≡ l.at → column_use_parts n l.label (parts_view (drop l.part-index l.parts)) ≡ column_use_parts n l.label (parts_view l.parts)
