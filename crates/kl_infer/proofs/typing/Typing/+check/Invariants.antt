use Rattle.std.proofs.Common.{drop, map}
use Rattle.kl_rows.specs.Places.{IsType}
use Rattle.kl_syntax.specs.Syntax.{no_branches}
use Rattle.kl_syntax.specs.View.{view, branch_view, exps_of, exps_view, quals_view, branches_of, steps_view}
use Rattle.kl_meaning.specs.Typing.{AllTypes, EachType, QualTypes, StepTypes}
use Rattle.kl_infer.specs.Asking.{cells, Leaves, Binding, context}
use Rattle.kl_infer.specs.Names.{ArmsTake, names, sorts}
use Rattle.kl_infer.proofs.typing.Typing.+check.Given as goal

abbrev pub invariant-check_all-es : goal.invariant-check_all-es
invariant-check_all-es l =
    Leaves (cells l.initial.self) (cells l.self) (λ s. AllTypes (exps_view l.es) (sorts l.known) (context s (names l.scope)) (map s.types l.types))
    (λ s. AllTypes (exps_view (drop l.i l.es)) (sorts l.known) (context s (names l.scope)) (map s.types (drop l.i l.types)))

abbrev pub invariant-check_branches-branches : goal.invariant-check_branches-branches
invariant-check_branches-branches l =
    Leaves (cells l.initial.self) (cells l.self) (λ s. ArmsTake (branches_of (map branch_view l.branches) no_branches) (sorts l.known) (context s (names l.scope)) (map s.types l.types) (s.types l.want))
    (λ s. ArmsTake (branches_of (map branch_view (drop l.i l.branches)) no_branches) (sorts l.known) (context s (names l.scope)) (map s.types (drop l.i l.types)) (s.types l.want))

abbrev pub invariant-check_each-es : goal.invariant-check_each-es
invariant-check_each-es l =
    Leaves (cells l.initial.self) (cells l.self) (λ s. EachType (exps_view l.es) (sorts l.known) (context s (names l.scope)) (s.types l.item))
    (λ s. EachType (exps_view (drop l.i l.es)) (sorts l.known) (context s (names l.scope)) (s.types l.item))

abbrev pub invariant-check_fields-fields : goal.invariant-check_fields-fields
invariant-check_fields-fields l =
    Leaves (cells l.initial.self) (cells l.self) (λ s. AllTypes (exps_of (map (λ f. view f.1) l.fields)) (sorts l.known) (context s (names l.scope)) (map s.types l.types))
    (λ s. AllTypes (exps_of (map (λ f. view f.1) (drop l.i l.fields))) (sorts l.known) (context s (names l.scope)) (map s.types (drop l.i l.types)))

abbrev pub invariant-check_quals-quals : goal.invariant-check_quals-quals
invariant-check_quals-quals l =
    Binding (cells l.initial.self) (cells l.self) l.initial.block.items l.block.items (names l.scope) (λ s. QualTypes (quals_view l.quals) (sorts l.known)) (λ s. QualTypes (quals_view (drop l.i l.quals)) (sorts l.known))

abbrev pub invariant-check_steps-steps : goal.invariant-check_steps-steps
invariant-check_steps-steps l = record {
  asks : Leaves (cells l.initial.self) (cells l.self) (λ s. StepTypes (steps_view l.steps) (sorts l.known) (context s (names l.scope)) (s.types l.first) (s.types l.want))
      (λ s. StepTypes (steps_view (drop l.i l.steps)) (sorts l.known) (context s (names l.scope)) (s.types l.t) (s.types l.want));
  there : IsType (cells l.self) l.t;
}
