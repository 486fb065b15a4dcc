use Rattle.std.proofs.Common.{◌≡◌, ◌-◌, ◌^◌, ℕ, min, drop}
use Rattle.kl_core.specs.Trees.{trees_view, parts_view}
use Rattle.kl_core.specs.Positions.{occurs_trees, occurs_parts}
use Rattle.kl_joins.proofs.positions.+stands_in.Given as goal

abbrev pub invariant-stands_all-loop-term : goal.invariant-stands_all-loop-term
invariant-stands_all-loop-term l = (n : ℕ) → min n (2 ^ 64 - 1) ≡ l.at
    → occurs_trees n (trees_view (drop l.term-index l.terms)) ≡ occurs_trees n (trees_view l.terms)

abbrev pub invariant-stands_labelled-loop-part : goal.invariant-stands_labelled-loop-part
invariant-stands_labelled-loop-part l = (n : ℕ) → min n (2 ^ 64 - 1) ≡ l.at
    → occurs_parts n (parts_view (drop l.part-index l.parts)) ≡ occurs_parts n (parts_view l.parts)
