use Rattle.std.proofs.Common.{◌≡◌, ◌++◌, drop, map}
use Rattle.kl_syntax.specs.Syntax.{Branches}
use Rattle.kl_syntax.specs.View.{exps_view, fields_view, quals_view, steps_view, branch_view, branches_of}
use Rattle.kl_ho.specs.Functions.{behind_quals}
use Rattle.kl_functions.specs.Occurrences.{names_of, roles_of, occurrences_all, occurrences_fields, occurrences_quals, occurrences_branches, occurrences_steps}
use Rattle.kl_functions.proofs.occurrences.Parameter.+places.Given as goal

abbrev pub invariant-items-items : goal.invariant-items-items
invariant-items-items l =
    l.found.items ++ occurrences_all (roles_of l.self) (exps_view (drop l.item-index l.items)) l.given (names_of l.hiding)
    ≡ l.initial.found.items ++ occurrences_all (roles_of l.self) (exps_view l.items) l.given (names_of l.hiding)

abbrev pub invariant-fields-fields : goal.invariant-fields-fields
invariant-fields-fields l =
    l.found.items ++ occurrences_fields (roles_of l.self) (fields_view (drop l.field-index l.fields)) l.given (names_of l.hiding)
    ≡ l.initial.found.items ++ occurrences_fields (roles_of l.self) (fields_view l.fields) l.given (names_of l.hiding)

abbrev pub invariant-steps-steps : goal.invariant-steps-steps
invariant-steps-steps l =
    l.found.items ++ occurrences_steps (roles_of l.self) (steps_view (drop l.step-index l.steps)) (names_of l.hiding)
    ≡ l.initial.found.items ++ occurrences_steps (roles_of l.self) (steps_view l.steps) (names_of l.hiding)

abbrev pub invariant-quals-quals : goal.invariant-quals-quals
invariant-quals-quals l = record {
  behind : behind_quals (quals_view (drop l.qual-index l.quals)) (names_of l.names.items) ≡ behind_quals (quals_view l.quals) (names_of l.hiding);
  found : l.found.items ++ occurrences_quals (roles_of l.self) (quals_view (drop l.qual-index l.quals)) (names_of l.names.items)
      ≡ l.initial.found.items ++ occurrences_quals (roles_of l.self) (quals_view l.quals) (names_of l.hiding);
}

abbrev pub invariant-branches-branches : goal.invariant-branches-branches
invariant-branches-branches l =
    (rest : Branches) → l.found.items ++ occurrences_branches (roles_of l.self) (branches_of (map branch_view (drop l.branch-index l.branches)) rest) (names_of l.hiding)
    ≡ l.initial.found.items ++ occurrences_branches (roles_of l.self) (branches_of (map branch_view l.branches) rest) (names_of l.hiding)
