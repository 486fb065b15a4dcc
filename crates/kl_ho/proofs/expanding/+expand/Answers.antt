use Rattle.std.proofs.Common.{refl, sym, ap, ◌∙◌, arith}
use Rattle.std.specs.Option.{option_map, option_copied}
use Rattle.kl_syntax.specs.View.{view, pattern_view, quals_view}
use Rattle.kl_ho.specs.Growing.{higher_of, highers_of}
use Rattle.kl_ho.proofs.Arms.{none_arm, unfold_none, within_arm, const_arm, name_arm, rec_arm, more_arm, inj_arm, coll_arm, if_arm, let_arm, case_arm, path_arm, not_arm, neg_arm, chain_arm, comp_arm, boxed_arm, call_arm, unfold_arm}
use Rattle.kl_ho.proofs.Loops.{all_step, all_done, all_error, steps_step, steps_done, steps_error, quals_step, quals_behind, quals_done, quals_error, gen_arm, cond_arm, fields_step, fields_next, fields_done, fields_error, branches_step, branches_done, branches_error, other_error, otherwise_made, otherwise_error}
use Rattle.kl_ho.specs.Expansion.{b_none}
use Rattle.kl_ho.proofs.expanding.+expand.Goals as goal
use Rattle.kl_ho.proofs.expanding.+expand.Goals.{expand_fields-then-not-is_skipped+in_ok-label+in_ok-expand+in_ok-push, expand_fields-else-not-is_skipped}

pub expand-returns-in_ok-dup-in-Const-clause-gives : goal.expand-returns-in_ok-dup-in-Const-clause-gives
expand-returns-in_ok-dup-in-Const-clause-gives t c = const_arm c.args.t.now.base.now (highers_of c.args.t.now) c.args.funs.now c.args.vars.now c.args.e.now _ _ c.in_ok-spend.ensures.spent _ _ c.in-Const.is c.in_ok-dup-in-Const.ensures

pub expand-returns-in_ok-renamed-in-Name-clause-gives : goal.expand-returns-in_ok-renamed-in-Name-clause-gives
expand-returns-in_ok-renamed-in-Name-clause-gives t c = name_arm c.args.t.now.base.now (highers_of c.args.t.now) c.args.funs.now c.args.vars.now c.args.e.now _ _ c.in_ok-spend.ensures.spent _ _ c.in-Name.is c.in_ok-renamed-in-Name.ensures

pub expand-returns-in-Rec-clause-gives : goal.expand-returns-in-Rec-clause-gives
expand-returns-in-Rec-clause-gives t c = rec_arm c.args.t.now.base.now (highers_of c.args.t.now) c.args.funs.now c.args.vars.now c.args.e.now _ _ c.in_ok-spend.ensures.spent _ _ c.expand_fields.result c.record.result c.in-Rec.is (rw c.slice.ensures at c.expand_fields.ensures.gives) c.record.ensures

pub expand-returns-in-More-clause-gives : goal.expand-returns-in-More-clause-gives
expand-returns-in-More-clause-gives t c = more_arm c.args.t.now.base.now (highers_of c.args.t.now) c.args.funs.now c.args.vars.now c.args.e.now _ _ c.in_ok-spend.ensures.spent _ _ _ _ c.expand_fields-fields.result c.expand_box.result c.extended.result c.in-More.is (rw c.slice-in-More.ensures at c.expand_fields-fields.ensures.gives) c.expand_box.ensures.gives c.extended.ensures

pub expand-returns-in-Inj-clause-gives : goal.expand-returns-in-Inj-clause-gives
expand-returns-in-Inj-clause-gives t c = inj_arm c.args.t.now.base.now (highers_of c.args.t.now) c.args.funs.now c.args.vars.now c.args.e.now _ _ c.in_ok-spend.ensures.spent _ _ _ c.expand_box-in-Inj.result c.injection.result c.in-Inj.is c.expand_box-in-Inj.ensures.gives c.injection.ensures

pub expand-returns-in-Coll-clause-gives : goal.expand-returns-in-Coll-clause-gives
expand-returns-in-Coll-clause-gives t c = coll_arm c.args.t.now.base.now (highers_of c.args.t.now) c.args.funs.now c.args.vars.now c.args.e.now _ _ c.in_ok-spend.ensures.spent _ _ _ c.expand_all.result c.collection.result c.in-Coll.is (rw c.slice-in-Coll.ensures at c.expand_all.ensures.gives) c.collection.ensures

pub expand-returns-in-If-clause-gives : goal.expand-returns-in-If-clause-gives
expand-returns-in-If-clause-gives t c = if_arm c.args.t.now.base.now (highers_of c.args.t.now) c.args.funs.now c.args.vars.now c.args.e.now _ _ c.in_ok-spend.ensures.spent _ _ _ _ _ _ c.expand_box-a.result c.expand_box-b.result c.expand_box-c.result c.test.result c.in-If.is c.expand_box-a.ensures.gives c.expand_box-b.ensures.gives c.expand_box-c.ensures.gives c.test.ensures

pub expand-returns-in-Let-clause-gives : goal.expand-returns-in-Let-clause-gives
expand-returns-in-Let-clause-gives t c = let_arm c.args.t.now.base.now (highers_of c.args.t.now) c.args.funs.now c.args.vars.now c.args.e.now _ _ c.in_ok-spend.ensures.spent _ _ _ _ _ c.expand_box-a-in-Let.result c.expand_within.result c.binding.result c.in-Let.is c.expand_box-a-in-Let.ensures.gives (rw c.get.ensures at c.expand_within.ensures.gives) c.binding.ensures

pub expand-returns-in-Case-clause-gives : goal.expand-returns-in-Case-clause-gives
expand-returns-in-Case-clause-gives t c = case_arm c.args.t.now.base.now (highers_of c.args.t.now) c.args.funs.now c.args.vars.now c.args.e.now _ _ c.in_ok-spend.ensures.spent _ _ _ _ _ c.expand_box-a-in-Case.result c.expand_branches.result c.case.result c.in-Case.is c.expand_box-a-in-Case.ensures.gives (rw c.slice-in-Case.ensures at c.expand_branches.ensures.gives) c.case.ensures

pub expand-returns-in-Path-clause-gives : goal.expand-returns-in-Path-clause-gives
expand-returns-in-Path-clause-gives t c = path_arm c.args.t.now.base.now (highers_of c.args.t.now) c.args.funs.now c.args.vars.now c.args.e.now _ _ c.in_ok-spend.ensures.spent _ _ _ c.expand_box-in-Path.result c.path.result c.in-Path.is c.expand_box-in-Path.ensures.gives (rw c.slice-in-Path.ensures at c.path.ensures)

pub expand-returns-in-Not-clause-gives : goal.expand-returns-in-Not-clause-gives
expand-returns-in-Not-clause-gives t c = not_arm c.args.t.now.base.now (highers_of c.args.t.now) c.args.funs.now c.args.vars.now c.args.e.now _ _ c.in_ok-spend.ensures.spent _ _ c.expand_box-in-Not.result c.negation.result c.in-Not.is c.expand_box-in-Not.ensures.gives c.negation.ensures

pub expand-returns-in-Neg-clause-gives : goal.expand-returns-in-Neg-clause-gives
expand-returns-in-Neg-clause-gives t c = neg_arm c.args.t.now.base.now (highers_of c.args.t.now) c.args.funs.now c.args.vars.now c.args.e.now _ _ c.in_ok-spend.ensures.spent _ _ c.expand_box-in-Neg.result c.minus.result c.in-Neg.is c.expand_box-in-Neg.ensures.gives c.minus.ensures

pub expand-returns-in-Chain-clause-gives : goal.expand-returns-in-Chain-clause-gives
expand-returns-in-Chain-clause-gives t c = chain_arm c.args.t.now.base.now (highers_of c.args.t.now) c.args.funs.now c.args.vars.now c.args.e.now _ _ c.in_ok-spend.ensures.spent _ _ _ _ c.expand_box-a-in-Chain.result c.expand_steps.result c.chain.result c.in-Chain.is c.expand_box-a-in-Chain.ensures.gives (rw c.slice-in-Chain.ensures at c.expand_steps.ensures.gives) c.chain.ensures

pub expand_all-returns-in_err-expand-clause-gives : goal.expand_all-returns-in_err-expand-clause-gives
expand_all-returns-in_err-expand-clause-gives t c = all_error c.args.t.now.base.now (highers_of c.args.t.now) c.args.funs.now c.args.vars.now c.args.es.now _ c.loop-e.e-index c.loop-e.budget _ c.e-item.result c.loop-e.made.items c.from_residual-in_err-expand.result c.in_err-expand.field-0.0 c.loop-e-test.true c.e-item.is c.from_residual-in_err-expand.ensures.1 c.in_err-expand.ensures.gives c.loop-e.invariant.1

pub expand_all-loop-e-preserved : goal.expand_all-loop-e-preserved
expand_all-loop-e-preserved t c = (omega (arith, c.expand.ensures.less, c.loop-e.invariant.0), all_step c.args.t.now.base.now (highers_of c.args.t.now) c.args.funs.now c.args.vars.now c.args.es.now _ _ _ _ c.e-item.result c.in_ok-expand.field-0 c.loop-e.made.items _ c.loop-e-test.true c.e-item.is c.in_ok-push.ensures.items c.in_ok-expand.ensures.gives c.loop-e.invariant.1)

pub expand_all-returns-clause-gives : goal.expand_all-returns-clause-gives
expand_all-returns-clause-gives t c = all_done c.args.t.now.base.now (highers_of c.args.t.now) c.args.funs.now c.args.vars.now c.args.es.now _ c.loop-e.e-index c.loop-e.budget c.loop-e.made.items _ c.loop-e-test.false c.of.ensures c.loop-e.invariant.1

pub expand_box-returns-clause-gives : goal.expand_box-returns-clause-gives
expand_box-returns-clause-gives t c = boxed_arm c.args.t.now.base.now (highers_of c.args.t.now) c.args.funs.now c.args.vars.now c.args.e.now _ _ _ c.expand.result c.boxed.result c.get.ensures c.expand.ensures.gives c.boxed.ensures

pub expand_branches-returns-in_err-pat-clause-gives : goal.expand_branches-returns-in_err-pat-clause-gives
expand_branches-returns-in_err-pat-clause-gives t c = branches_error c.args.t.now.base.now (highers_of c.args.t.now) c.args.funs.now c.args.vars.now c.args.branches.now c.args.other.now _ c.loop-branch.branch-index c.loop-branch.budget _ c.branch-item.result c.loop-branch.made.items c.from_residual-in_err-pat.result c.in_err-pat.field-0.0 c.loop-branch-test.true c.branch-item.is c.from_residual-in_err-pat.ensures.1 c.in_err-pat.ensures.gives c.loop-branch.invariant.1

pub expand_branches-loop-branch-preserved : goal.expand_branches-loop-branch-preserved
expand_branches-loop-branch-preserved t c = (omega (arith, c.expand_within.ensures.less, c.loop-branch.invariant.0), branches_step c.args.t.now.base.now (highers_of c.args.t.now) c.args.funs.now c.args.vars.now c.args.branches.now c.args.other.now _ _ _ _ c.branch-item.result c.in_ok-label.label c.in_ok-pat.pat c.in_ok-pat.body c.loop-branch.made.items _ c.loop-branch-test.true c.branch-item.is (rw c.into_inner.ensures at c.in_ok-push.ensures.items) c.in_ok-label.ensures c.in_ok-pat.ensures.gives c.loop-branch.invariant.1)

pub expand_branches-returns-in_err-other-clause-gives : goal.expand_branches-returns-in_err-other-clause-gives
expand_branches-returns-in_err-other-clause-gives t c = other_error c.args.t.now.base.now (highers_of c.args.t.now) c.args.funs.now c.args.vars.now c.args.branches.now c.args.other.now _ c.loop-branch.branch-index c.loop-branch.budget _ c.loop-branch.made.items c.from_residual-in_err-other.result c.in_err-other.field-0.0 c.loop-branch-test.false c.from_residual-in_err-other.ensures.1 c.in_err-other.ensures.gives c.loop-branch.invariant.1

pub expand_branches-returns-clause-gives : goal.expand_branches-returns-clause-gives
expand_branches-returns-clause-gives t c = branches_done c.args.t.now.base.now (highers_of c.args.t.now) c.args.funs.now c.args.vars.now c.args.branches.now c.args.other.now _ c.loop-branch.branch-index c.loop-branch.budget _ c.loop-branch.made.items _ c.in_ok-other.other c.loop-branch-test.false c.of.ensures c.in_ok-other.ensures.gives c.loop-branch.invariant.1

pub expand-returns-in_err-spend-clause-gives : goal.expand-returns-in_err-spend-clause-gives
expand-returns-in_err-spend-clause-gives t c =
    none_arm c.args.t.now.base.now (highers_of c.args.t.now) c.args.funs.now c.args.vars.now (view c.args.e.now) _ _ c.from_residual.result c.in_err-spend.field-0.0 c.in_err-spend.ensures.empty.1 c.from_residual.ensures.1

pub expand_call-returns-clause-gives : goal.expand_call-returns-clause-gives
expand_call-returns-clause-gives t c =
    call_arm c.args.t.now.base.now (highers_of c.args.t.now) c.args.funs.now c.args.word.now (record { text = c.in_ok-name-in-None.name; token = c.args.word.now.token; means = c.args.word.now.means }) c.args.args.now c.args.vars.now _ _ c.expand_all.result c.call.result
    (ap (highers_of c.args.t.now) (sym c.in_ok-name.ensures) ∙ sym (rw c.deref.ensures.value at c.defined.ensures) ∙ ap (λ z. option_map higher_of (option_copied z)) c.in-None.is) (c.in_ok-name-in-None.ensures.same ∙ c.in_ok-name.ensures) c.in_ok-name-in-None.ensures.old
    (rw c.slice-in-None.ensures at c.expand_all.ensures.gives) c.call.ensures

pub expand_call-returns-in-Some-clause-gives : goal.expand_call-returns-in-Some-clause-gives
expand_call-returns-in-Some-clause-gives t c =
    rw c.slice.ensures
    at (c.unfold.ensures.gives c.args.word.now
    (ap (highers_of c.args.t.now) (sym c.in_ok-name.ensures) ∙ sym (rw c.deref.ensures.value at c.defined.ensures) ∙ ap (λ z. option_map higher_of (option_copied z)) c.in-Some.is))

pub unfold-returns-in_err-spend-clause-gives : goal.unfold-returns-in_err-spend-clause-gives
unfold-returns-in_err-spend-clause-gives t c =
    λ f found.
    unfold_none c.args.t.now.base.now (highers_of c.args.t.now) c.args.funs.now f (higher_of c.args.parts.now) c.in_ok-given.given.items c.args.args.now c.in_ok-fields.fields.now c.args.vars.now c.args.budget.now _ c.from_residual-in_err-spend.result c.in_err-spend.field-0.0 found c.in_ok-fields.ensures
    (rw (c.deref.ensures.value, c.slice.ensures) at c.in_ok-given.ensures) c.in_err-spend.ensures.empty.1 c.from_residual-in_err-spend.ensures.1

pub expand_other-returns-in_err-expand_box-in-Some-clause-gives : goal.expand_other-returns-in_err-expand_box-in-Some-clause-gives
expand_other-returns-in_err-expand_box-in-Some-clause-gives t c =
    rw c.in-Some.is
    (otherwise_error c.args.t.now.base.now (highers_of c.args.t.now) c.args.funs.now c.args.vars.now _ _ _ c.from_residual.result c.in_err-expand_box-in-Some.field-0.0 c.from_residual.ensures.1 c.in_err-expand_box-in-Some.ensures.gives)

pub expand_comp-returns-clause-gives : goal.expand_comp-returns-clause-gives
expand_comp-returns-clause-gives t c = comp_arm c.args.t.now.base.now (highers_of c.args.t.now) c.args.funs.now _ (view c.args.head.now) (quals_view c.args.quals.now) c.args.vars.now c.expand_quals-quals.new.vars.items _ _ _ c.expand_quals-quals.result c.expand_box-head.result c.comprehension.result (rw c.in_ok-inner.ensures at c.expand_quals-quals.ensures.gives) (rw c.in_ok-inner.ensures at c.expand_quals-quals.ensures.vars) (rw c.deref.ensures.value at c.expand_box-head.ensures.gives) c.comprehension.ensures

pub expand_fields-returns-in_err-expand-clause-gives : goal.expand_fields-returns-in_err-expand-clause-gives
expand_fields-returns-in_err-expand-clause-gives t c = fields_error c.args.t.now.base.now (highers_of c.args.t.now) c.args.funs.now c.args.vars.now c.args.skips.now c.args.fields.now _ c.loop-field.field-index c.loop-field.budget _ c.field-item.result c.loop-field.made.items c.from_residual-in_err-expand.result c.in_err-expand.field-0.0 c.loop-field-test.true c.field-item.is (sym c.is_skipped.ensures ∙ c.if-not-is_skipped.true) c.from_residual-in_err-expand.ensures.1 c.in_err-expand.ensures.gives c.loop-field.invariant.1

pub expand_fields-loop-field-preserved : goal.expand_fields-loop-field-preserved
expand_fields-loop-field-preserved t c =
    elim c.if-not-is_skipped.branch [
      | expand_fields-then-not-is_skipped+in_ok-label+in_ok-expand+in_ok-push w ↦
          rw (w.budget-is, w.made-is) (
            omega (arith, w.expand.ensures.less, c.loop-field.invariant.0),
            fields_step c.args.t.now.base.now (highers_of c.args.t.now) c.args.funs.now c.args.vars.now c.args.skips.now c.args.fields.now _ c.loop-field.field-index c.loop-field.budget w.expand.new.budget c.field-item.result w.in_ok-label.label w.in_ok-expand.field-0 c.loop-field.made.items _ c.loop-field-test.true c.field-item.is w.in_ok-push.ensures.items w.in_ok-label.ensures (sym c.is_skipped.ensures ∙ w.if-not-is_skipped.true) w.in_ok-expand.ensures.gives c.loop-field.invariant.1,
          )
      | expand_fields-else-not-is_skipped w ↦
          rw (w.budget-is, w.made-is) (
            c.loop-field.invariant.0,
            fields_next c.args.t.now.base.now (highers_of c.args.t.now) c.args.funs.now c.args.vars.now c.args.skips.now c.args.fields.now _ c.loop-field.field-index c.loop-field.budget c.field-item.result c.loop-field.made.items c.loop-field-test.true c.field-item.is (sym c.is_skipped.ensures ∙ w.if-not-is_skipped.false) c.loop-field.invariant.1,
          )
    ]

pub expand_fields-returns-clause-gives : goal.expand_fields-returns-clause-gives
expand_fields-returns-clause-gives t c = fields_done c.args.t.now.base.now (highers_of c.args.t.now) c.args.funs.now c.args.vars.now c.args.skips.now c.args.fields.now _ c.loop-field.field-index c.loop-field.budget c.loop-field.made.items _ c.loop-field-test.false c.of.ensures c.loop-field.invariant.1

pub expand_other-returns-in_ok-expand_box-in-Some-clause-gives : goal.expand_other-returns-in_ok-expand_box-in-Some-clause-gives
expand_other-returns-in_ok-expand_box-in-Some-clause-gives t c = rw c.in-Some.is (otherwise_made c.args.t.now.base.now (highers_of c.args.t.now) c.args.funs.now c.args.vars.now _ _ _ _ c.in_ok-expand_box-in-Some.ensures.gives)

pub expand_other-returns-in-None-clause-gives : goal.expand_other-returns-in-None-clause-gives
expand_other-returns-in-None-clause-gives t c = rw c.in-None.is (0, b_none, omega arith)

pub expand_quals-returns-in_err-expand_qual-clause-gives : goal.expand_quals-returns-in_err-expand_qual-clause-gives
expand_quals-returns-in_err-expand_qual-clause-gives t c = quals_error c.args.t.now.base.now (highers_of c.args.t.now) c.args.funs.now c.args.vars.now.items c.args.quals.now _ c.loop-qual.qual-index c.loop-qual.budget _ c.qual-item.result c.loop-qual.vars.items c.expand_qual.new.vars.items c.loop-qual.made.items c.from_residual-in_err-expand_qual.result c.in_err-expand_qual.field-0.0 c.loop-qual-test.true c.qual-item.is c.from_residual-in_err-expand_qual.ensures.1 c.in_err-expand_qual.ensures.gives c.loop-qual.invariant.1

pub expand_quals-loop-qual-preserved : goal.expand_quals-loop-qual-preserved
expand_quals-loop-qual-preserved t c = (omega (arith, c.expand_qual.ensures.less, c.loop-qual.invariant.0), quals_step c.args.t.now.base.now (highers_of c.args.t.now) c.args.funs.now c.args.vars.now.items c.args.quals.now _ _ _ _ c.qual-item.result c.in_ok-expand_qual.field-0 c.loop-qual.vars.items c.expand_qual.new.vars.items c.loop-qual.made.items _ c.loop-qual-test.true c.qual-item.is c.in_ok-push.ensures.items c.in_ok-expand_qual.ensures.gives.0 c.loop-qual.invariant.1, quals_behind c.args.t.now.base.now (highers_of c.args.t.now) c.args.funs.now c.args.vars.now.items c.args.quals.now c.args.budget.now c.loop-qual.qual-index c.qual-item.result c.loop-qual.vars.items c.expand_qual.new.vars.items c.loop-qual-test.true c.qual-item.is c.in_ok-expand_qual.ensures.gives.1 c.loop-qual.invariant.2)

pub expand_quals-returns-clause-gives : goal.expand_quals-returns-clause-gives
expand_quals-returns-clause-gives t c = quals_done c.args.t.now.base.now (highers_of c.args.t.now) c.args.funs.now c.args.vars.now.items c.args.quals.now _ c.loop-qual.qual-index c.loop-qual.budget c.loop-qual.vars.items c.loop-qual.made.items _ c.loop-qual-test.false c.of.ensures c.loop-qual.invariant.1

pub expand_steps-returns-in_err-expand-clause-gives : goal.expand_steps-returns-in_err-expand-clause-gives
expand_steps-returns-in_err-expand-clause-gives t c = steps_error c.args.t.now.base.now (highers_of c.args.t.now) c.args.funs.now c.args.vars.now c.args.steps.now _ c.loop-step.step-index c.loop-step.budget _ c.step-item.result c.loop-step.made.items c.from_residual-in_err-expand.result c.in_err-expand.field-0.0 c.loop-step-test.true c.step-item.is c.from_residual-in_err-expand.ensures.1 c.in_err-expand.ensures.gives c.loop-step.invariant.1

pub expand_steps-loop-step-preserved : goal.expand_steps-loop-step-preserved
expand_steps-loop-step-preserved t c = (omega (arith, c.expand.ensures.less, c.loop-step.invariant.0), steps_step c.args.t.now.base.now (highers_of c.args.t.now) c.args.funs.now c.args.vars.now c.args.steps.now _ _ _ _ c.step-item.result c.in_ok-expand.field-0 c.loop-step.made.items _ c.loop-step-test.true c.step-item.is c.in_ok-push.ensures.items c.in_ok-expand.ensures.gives c.loop-step.invariant.1)

pub expand_steps-returns-clause-gives : goal.expand_steps-returns-clause-gives
expand_steps-returns-clause-gives t c = steps_done c.args.t.now.base.now (highers_of c.args.t.now) c.args.funs.now c.args.vars.now c.args.steps.now _ c.loop-step.step-index c.loop-step.budget c.loop-step.made.items _ c.loop-step-test.false c.of.ensures c.loop-step.invariant.1

pub unfold-returns-clause-gives : goal.unfold-returns-clause-gives
unfold-returns-clause-gives t c = λ f found.
    unfold_arm c.args.t.now.base.now (highers_of c.args.t.now) c.args.funs.now f (higher_of c.args.parts.now) c.in_ok-given.given.items c.args.args.now c.in_ok-fields.fields.now c.in_ok-rest.rest c.args.vars.now c.new_rest.new.vars.items c.args.budget.now _ _ _ c.expand_fields-fields.result c.boxed-body.result c.unfolded.result found c.in_ok-fields.ensures
    (rw (c.deref.ensures.value, c.slice.ensures) at c.in_ok-given.ensures) c.in_ok-spend.ensures.spent (rw (c.deref-2.ensures.value, c.slice-2.ensures) at c.expand_fields-fields.ensures.gives) (rw c.new-inner.ensures.items at c.in_ok-rest.ensures.made)
    (boxed_arm c.args.t.now.base.now (highers_of c.args.t.now) c.in_ok-given.given.items c.new_rest.new.vars.items c.args.parts.now.body.now c.args.parts.now.body.now _ _ c.expand.result c.boxed-body.result refl (rw (c.deref-3.ensures.value, c.deref-4.ensures.value) at c.expand.ensures.gives) c.boxed-body.ensures)
    c.unfolded.ensures

pub expand_within-returns-clause-gives : goal.expand_within-returns-clause-gives
expand_within-returns-clause-gives t c =
    within_arm c.args.t.now.base.now (highers_of c.args.t.now) c.args.funs.now c.args.vars.now c.in_ok-pattern.inner.items (pattern_view c.args.pattern.now) c.in_ok-pattern.pattern (view c.args.body.now) _ _ c.boxed-body.result c.within.result c.in_ok-pattern.ensures.becomes c.in_ok-pattern.ensures.vars
    (boxed_arm c.args.t.now.base.now (highers_of c.args.t.now) c.args.funs.now c.in_ok-pattern.inner.items c.args.body.now c.args.body.now _ _ c.expand.result c.boxed-body.result refl (rw c.deref.ensures.value at c.expand.ensures.gives) c.boxed-body.ensures)
    c.within.ensures

pub expand_qual-returns-in-Gen-clause-gives : goal.expand_qual-returns-in-Gen-clause-gives
expand_qual-returns-in-Gen-clause-gives t c =
    gen_arm c.args.t.now.base.now (highers_of c.args.t.now) c.args.funs.now c.args.vars.now.items c.args.qual.now _ _ _ _ _ _ c.expand-source.result c.generator.result c.in-Gen.is c.deref.ensures.value c.expand-source.ensures.gives c.generator.ensures

pub expand_qual-returns-in-Cond-clause-gives : goal.expand_qual-returns-in-Cond-clause-gives
expand_qual-returns-in-Cond-clause-gives t c =
    cond_arm c.args.t.now.base.now (highers_of c.args.t.now) c.args.funs.now c.args.vars.now.items c.args.qual.now _ _ _ _ c.expand.result c.condition.result c.in-Cond.is c.deref-in-Cond.ensures.value c.expand.ensures.gives c.condition.ensures
