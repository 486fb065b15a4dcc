use Rattle.std.proofs.Common.{◌≡◌, ◌≤◌, drop, length}
use Rattle.kl_core.specs.Trees.{view, parts_view}
use Rattle.kl_rules.specs.Unpacking.{bound_round}
use Rattle.kl_rules.proofs.records.bind_fields.Given as goal

abbrev pub invariant-loop-i : goal.invariant-loop-i
invariant-loop-i l = (l.i ≤ length l.fields) × (view l.whole ≡ bound_round (parts_view (drop l.i l.fields)) l.i (view l.initial.whole))

abbrev pub decreases-loop-i : goal.decreases-loop-i
decreases-loop-i l = l.i
