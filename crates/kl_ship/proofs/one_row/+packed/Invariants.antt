use Rattle.std.proofs.Common.{◌≡◌, ◌-◌, ◌^◌, ℕ, min, map, take}
use Rattle.kl_core.specs.Trees.{view, view_part}
use Rattle.kl_ship.specs.Packed.{over_rows}
use Rattle.kl_ship.proofs.one_row.+packed.Given as goal

abbrev pub invariant-packed_all-loop-term : goal.invariant-packed_all-loop-term
invariant-packed_all-loop-term l = (n : ℕ) → min n (2 ^ 64 - 1) ≡ l.at → map view l.made.items ≡ map (λ t. over_rows l.shown.columns.items l.shown.all.items n (view t)) (take l.term-index l.terms)

abbrev pub invariant-packed_labelled-loop-part : goal.invariant-packed_labelled-loop-part
invariant-packed_labelled-loop-part l = (n : ℕ) → min n (2 ^ 64 - 1) ≡ l.at → map view_part l.made.items ≡ map (λ p. (p.0, over_rows l.shown.columns.items l.shown.all.items n (view p.1))) (take l.part-index l.parts)
