use Rattle.std.proofs.Common.{◌≡◌, ◌+◌, map, take}
use Rattle.kl_core.specs.Trees.{view, view_part}
use Rattle.kl_core.specs.Positions.{shift_of, subst_of}
use Rattle.kl_core.proofs.replacing.+put.Given as goal

abbrev pub invariant-put_all-loop-term : goal.invariant-put_all-loop-term
invariant-put_all-loop-term l = map view l.made.items ≡ map (λ t. subst_of (view t) l.at (shift_of (view l.with) 0 l.under)) (take l.term-index l.terms)

abbrev pub invariant-put_fields-loop-field : goal.invariant-put_fields-loop-field
invariant-put_fields-loop-field l = map view_part l.made.items ≡ map (λ f. (f.0, subst_of (view f.1) l.at (shift_of (view l.with) 0 l.under))) (take l.field-index l.fields)

abbrev pub invariant-put_branches-loop-branch : goal.invariant-put_branches-loop-branch
invariant-put_branches-loop-branch l = map view_part l.made.items ≡ map (λ b. (b.0, subst_of (view b.1) (l.at + 1) (shift_of (shift_of (view l.with) 0 l.under) 0 1))) (take l.branch-index l.branches)
