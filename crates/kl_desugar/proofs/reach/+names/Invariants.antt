use Rattle.std.proofs.Common.{◌≡◌, ◌++◌, drop, map}
use Rattle.kl_scope.specs.Senses.{behind_each}
use Rattle.kl_syntax.specs.Syntax.{Branches}
use Rattle.kl_syntax.specs.View.{exps_view, fields_view, quals_view, steps_view, branch_view, branches_of}
use Rattle.kl_desugar.specs.Reached.{names_all, names_fields, names_quals, names_branches, names_steps}
use Rattle.kl_desugar.proofs.reach.+names.Given as goal

abbrev pub invariant-names_all-items : goal.invariant-names_all-items
invariant-names_all-items l = behind_each l.words.items ++ names_all (exps_view (drop l.item-index l.items)) ≡ behind_each l.initial.words.items ++ names_all (exps_view l.items)

abbrev pub invariant-names_fields-fields : goal.invariant-names_fields-fields
invariant-names_fields-fields l = behind_each l.words.items ++ names_fields (fields_view (drop l.field-index l.fields)) ≡ behind_each l.initial.words.items ++ names_fields (fields_view l.fields)

abbrev pub invariant-names_steps-steps : goal.invariant-names_steps-steps
invariant-names_steps-steps l = behind_each l.words.items ++ names_steps (steps_view (drop l.step-index l.steps)) ≡ behind_each l.initial.words.items ++ names_steps (steps_view l.steps)

abbrev pub invariant-names_quals-quals : goal.invariant-names_quals-quals
invariant-names_quals-quals l = behind_each l.words.items ++ names_quals (quals_view (drop l.qual-index l.quals)) ≡ behind_each l.initial.words.items ++ names_quals (quals_view l.quals)

abbrev pub invariant-names_branches-branches : goal.invariant-names_branches-branches
invariant-names_branches-branches l =
    (rest : Branches) → behind_each l.words.items ++ names_branches (branches_of (map branch_view (drop l.branch-index l.branches)) rest)
    ≡ behind_each l.initial.words.items ++ names_branches (branches_of (map branch_view l.branches) rest)
