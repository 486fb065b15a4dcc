use Rattle.std.proofs.Common.{◌≡◌, ◌-◌, ◌^◌, ℕ, min, drop}
use Rattle.kl_base.specs.Fields.{labels_of}
use Rattle.kl_core.specs.Trees.{trees_view, parts_view}
use Rattle.kl_rules.specs.Unpacked.{alone_trees, alone_parts}
use Rattle.kl_rules.proofs.records.+is_alone.Given as goal

abbrev pub invariant-are_alone-loop-term : goal.invariant-are_alone-loop-term
invariant-are_alone-loop-term l = (n : ℕ) → min n (2 ^ 64 - 1) ≡ l.at → alone_trees (labels_of l.fields) n (trees_view (drop l.term-index l.terms)) ≡ alone_trees (labels_of l.fields) n (trees_view l.terms)

abbrev pub invariant-are_alone_labelled-loop-part : goal.invariant-are_alone_labelled-loop-part
invariant-are_alone_labelled-loop-part l = (n : ℕ) → min n (2 ^ 64 - 1) ≡ l.at → alone_parts (labels_of l.fields) n (parts_view (drop l.part-index l.parts)) ≡ alone_parts (labels_of l.fields) n (parts_view l.parts)
