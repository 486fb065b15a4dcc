use Rattle.std.proofs.Common.{◌≡◌, drop}
use Rattle.kl_syntax.specs.Syntax.{Branches}
use Rattle.kl_syntax.specs.View.{exps_view, fields_view, quals_view, qual_view, steps_view, branch_view}
use Rattle.std.specs.Option.{option_copied}
use Rattle.kl_scope.specs.Walks.{onto, expr_front, field_front, step_front}
use Rattle.kl_ho.specs.Shapes.{behind_shaped}
use Rattle.kl_functions.specs.Occurrences.{names_of}
use Rattle.kl_functions.specs.Plainly.{plain_all, plain_fields, plain_quals, plain_branches, plain_steps}
use Rattle.kl_functions.proofs.plain.Place.+plain.Given as goal

abbrev pub invariant-items-items : goal.invariant-items-items
invariant-items-items l = onto expr_front l.made.items (plain_all l.self (exps_view (drop l.item-index l.items)) (names_of l.hiding)) ≡ plain_all l.self (exps_view l.items) (names_of l.hiding)

abbrev pub invariant-fields-fields : goal.invariant-fields-fields
invariant-fields-fields l =
    onto field_front l.made.items (plain_fields l.self (fields_view (drop l.field-index l.fields)) (option_copied l.head) (names_of l.hiding))
    ≡ plain_fields l.self (fields_view l.fields) (option_copied l.head) (names_of l.hiding)

abbrev pub invariant-steps-steps : goal.invariant-steps-steps
invariant-steps-steps l = onto step_front l.made.items (plain_steps l.self (steps_view (drop l.step-index l.steps)) (names_of l.hiding)) ≡ plain_steps l.self (steps_view l.steps) (names_of l.hiding)

abbrev pub invariant-quals-quals : goal.invariant-quals-quals
invariant-quals-quals l = record {
  copied : onto qual_view l.made.items (plain_quals l.self (quals_view (drop l.qual-index l.quals)) (names_of l.inner.items)) ≡ plain_quals l.self (quals_view l.quals) (names_of l.hiding);
  behind : behind_shaped (quals_view (drop l.qual-index l.quals)) (names_of l.inner.items) ≡ behind_shaped (quals_view l.quals) (names_of l.hiding);
}

abbrev pub invariant-branches-branches : goal.invariant-branches-branches
invariant-branches-branches l =
    (rest : Branches) → onto branch_view l.made.items (plain_branches l.self (onto branch_view (drop l.branch-index l.branches) rest) (names_of l.hiding))
    ≡ plain_branches l.self (onto branch_view l.branches rest) (names_of l.hiding)
