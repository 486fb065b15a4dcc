use Rattle.std.proofs.Common.{◌≡◌, ◌+◌, map, take}
use Rattle.kl_core.specs.Trees.{view, view_part}
use Rattle.kl_core.specs.Positions.{shift_of}
use Rattle.kl_core.proofs.moving.+raise.Given as goal

abbrev pub invariant-raise_all-loop-term : goal.invariant-raise_all-loop-term
invariant-raise_all-loop-term l = map view l.raised.items ≡ map (λ t. shift_of (view t) l.from l.by) (take l.term-index l.terms)

abbrev pub invariant-raise_fields-loop-field : goal.invariant-raise_fields-loop-field
invariant-raise_fields-loop-field l = map view_part l.raised.items ≡ map (λ f. (f.0, shift_of (view f.1) l.from l.by)) (take l.field-index l.fields)

abbrev pub invariant-raise_branches-loop-branch : goal.invariant-raise_branches-loop-branch
invariant-raise_branches-loop-branch l = map view_part l.raised.items ≡ map (λ b. (b.0, shift_of (view b.1) (l.from + 1) l.by)) (take l.branch-index l.branches)
