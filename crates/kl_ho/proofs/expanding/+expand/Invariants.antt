use Rattle.std.proofs.Common.{◌+◌, ◌*◌, ◌≤◌, ◌≡◌, drop}
use Rattle.kl_scope.specs.Walks.{onto, expr_front, field_front, step_front}
use Rattle.kl_syntax.specs.Syntax.{Exps, Flds, Quals, Branches, Steps}
use Rattle.kl_syntax.specs.View.{qual_view, branch_view, exps_view, fields_view, quals_view, steps_view, branches_view}
use Rattle.kl_ho.specs.Growing.{Made, map_made, highers_of, GivesAll, GivesFields, GivesQuals, GivesBranches, GivesSteps}
use Rattle.kl_ho.specs.Shapes.{behind_shaped}
use Rattle.kl_ho.proofs.expanding.+expand.Given as goal

-- what may still be made, and how far a helper stands before the next expression
abbrev pub decreases-expand : goal.decreases-expand
decreases-expand l = 4 * l.budget.now

abbrev pub decreases-expand_box : goal.decreases-expand_box
decreases-expand_box l = 4 * l.budget.now + 1

abbrev pub decreases-expand_all : goal.decreases-expand_all
decreases-expand_all l = 4 * l.budget.now + 1

abbrev pub decreases-expand_fields : goal.decreases-expand_fields
decreases-expand_fields l = 4 * l.budget.now + 1

abbrev pub decreases-unfold : goal.decreases-unfold
decreases-unfold l = 4 * l.budget.now + 2

abbrev pub decreases-expand_call : goal.decreases-expand_call
decreases-expand_call l = 4 * l.budget.now + 3

abbrev pub decreases-expand_within : goal.decreases-expand_within
decreases-expand_within l = 4 * l.budget.now + 2

abbrev pub decreases-expand_other : goal.decreases-expand_other
decreases-expand_other l = 4 * l.budget.now + 2

abbrev pub decreases-expand_steps : goal.decreases-expand_steps
decreases-expand_steps l = 4 * l.budget.now + 2

abbrev pub decreases-expand_qual : goal.decreases-expand_qual
decreases-expand_qual l = 4 * l.budget.now + 1

abbrev pub decreases-expand_quals : goal.decreases-expand_quals
decreases-expand_quals l = 4 * l.budget.now + 2

abbrev pub decreases-expand_comp : goal.decreases-expand_comp
decreases-expand_comp l = 4 * l.budget.now + 3

abbrev pub decreases-expand_branches : goal.decreases-expand_branches
decreases-expand_branches l = 4 * l.budget.now + 3

-- nothing is given back, and what is made of the rest completes what is made
abbrev pub invariant-expand_all-loop-e : goal.invariant-expand_all-loop-e
invariant-expand_all-loop-e l =
    (l.budget ≤ l.initial.budget)
    × ((r : Made Exps) → GivesAll l.t.base.now (highers_of l.t) l.funs l.vars (exps_view (drop l.e-index l.es)) l.budget r
    → GivesAll l.t.base.now (highers_of l.t) l.funs l.vars (exps_view l.es) l.initial.budget (map_made (onto expr_front l.made.items) r))

abbrev pub invariant-expand_fields-loop-field : goal.invariant-expand_fields-loop-field
invariant-expand_fields-loop-field l =
    (l.budget ≤ l.initial.budget)
    × ((r : Made Flds) → GivesFields l.t.base.now (highers_of l.t) l.funs l.vars (fields_view (drop l.field-index l.fields)) l.skips l.budget r
    → GivesFields l.t.base.now (highers_of l.t) l.funs l.vars (fields_view l.fields) l.skips l.initial.budget (map_made (onto field_front l.made.items) r))

abbrev pub invariant-expand_steps-loop-step : goal.invariant-expand_steps-loop-step
invariant-expand_steps-loop-step l =
    (l.budget ≤ l.initial.budget)
    × ((r : Made Steps) → GivesSteps l.t.base.now (highers_of l.t) l.funs l.vars (steps_view (drop l.step-index l.steps)) l.budget r
    → GivesSteps l.t.base.now (highers_of l.t) l.funs l.vars (steps_view l.steps) l.initial.budget (map_made (onto step_front l.made.items) r))

abbrev pub invariant-expand_quals-loop-qual : goal.invariant-expand_quals-loop-qual
invariant-expand_quals-loop-qual l =
    (l.budget ≤ l.initial.budget)
    × ((r : Made Quals) → GivesQuals l.t.base.now (highers_of l.t) l.funs l.vars.items (quals_view (drop l.qual-index l.quals)) l.budget r
    → GivesQuals l.t.base.now (highers_of l.t) l.funs l.initial.vars.items (quals_view l.quals) l.initial.budget (map_made (onto qual_view l.made.items) r))
    × (behind_shaped (quals_view (drop l.qual-index l.quals)) l.vars.items ≡ behind_shaped (quals_view l.quals) l.initial.vars.items)

abbrev pub invariant-expand_branches-loop-branch : goal.invariant-expand_branches-loop-branch
invariant-expand_branches-loop-branch l =
    (l.budget ≤ l.initial.budget)
    × ((r : Made Branches) → GivesBranches l.t.base.now (highers_of l.t) l.funs l.vars (branches_view (drop l.branch-index l.branches) l.other) l.budget r
    → GivesBranches l.t.base.now (highers_of l.t) l.funs l.vars (branches_view l.branches l.other) l.initial.budget (map_made (onto branch_view l.made.items) r))
