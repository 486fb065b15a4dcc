use Rattle.std.proofs.Common.{◌≡◌, drop, map}
use Rattle.kl_syntax.specs.Syntax.{Branches}
use Rattle.kl_syntax.specs.View.{exps_view, fields_view, quals_view, steps_view, branches_of, branch_view}
use Rattle.kl_scope.specs.Caps.{capped}
use Rattle.kl_scope.specs.Sizes.{sized_all, sized_fields, qualified, sized_branches, chained}
use Rattle.kl_scope.proofs.counting.+expr.Given as goal

abbrev pub invariant-items-items : goal.invariant-items-items
invariant-items-items l = l.size ≡ capped (sized_all (exps_view (drop l.i l.items)) l.known)

abbrev pub invariant-fields-fields : goal.invariant-fields-fields
invariant-fields-fields l = l.size ≡ capped (sized_fields (fields_view (drop l.i l.fields)) l.known)

abbrev pub invariant-quals-quals : goal.invariant-quals-quals
invariant-quals-quals l = l.size ≡ capped (qualified (quals_view (drop l.i l.quals)) l.fn.last l.known)

abbrev pub invariant-branches-branches : goal.invariant-branches-branches
invariant-branches-branches l = (rest : Branches) → l.fn.last ≡ capped (sized_branches rest l.known) → l.size ≡ capped (sized_branches (branches_of (map branch_view (drop l.i l.branches)) rest) l.known)

abbrev pub invariant-steps-steps : goal.invariant-steps-steps
invariant-steps-steps l = capped (chained l.size (steps_view (drop l.step-index l.steps)) l.known) ≡ capped (chained l.fn.first (steps_view l.steps) l.known)
