use Rattle.std.proofs.Common.{◌≡◌, ◌-◌, ◌^◌, ℕ, ◌||◌, List, min, drop}
use Rattle.kl_core.specs.Trees.{trees_view, parts_view}
use Rattle.kl_ship.specs.Delegation.{column_use_trees, column_use_parts}
use Rattle.kl_ship.specs.Marking.{has}
use Rattle.kl_ship.proofs.used.+mark.Given as goal

abbrev pub invariant-mark_all-loop-term : goal.invariant-mark_all-loop-term
invariant-mark_all-loop-term l =
    (n : ℕ) → min n (2 ^ 64 - 1) ≡ l.at → (m : List ℕ) → (has l.columns m || column_use_trees n m (trees_view (drop l.term-index l.terms))) ≡ (has l.initial.columns m || column_use_trees n m (trees_view l.terms))

abbrev pub invariant-mark_labelled-loop-part : goal.invariant-mark_labelled-loop-part
invariant-mark_labelled-loop-part l =
    (n : ℕ) → min n (2 ^ 64 - 1) ≡ l.at → (m : List ℕ) → (has l.columns m || column_use_parts n m (parts_view (drop l.part-index l.parts))) ≡ (has l.initial.columns m || column_use_parts n m (parts_view l.parts))
