use Rattle.std.proofs.Common.{rules, arith, Ok, Err, refl, []}
use Rattle.kl_rows.specs.Places.{a_type}
use Rattle.kl_syntax.specs.declared.tree.Expr.{the_lemmas}
use Rattle.kl_syntax.specs.declared.tree.Qual.{the_lemmas as qual_lemmas}
use Rattle.kl_meaning.proofs.Naming.{signs_called}
use Rattle.kl_infer.specs.Names.{names}
use Rattle.kl_infer.proofs.Leaving.{handed_on, leads_on, ready_at, ready_on, ready_new, ready_many, ready_both, ready_head, ready_tail, ready_block, ready_nothing, ready_like, labelled_there}
use Rattle.kl_infer.proofs.Answering.{size_at, binds_there, one_ready, const_ok, name_ok, call_asked_so, call_ok, record_asked_so, record_ok, more_none, more_asked_so, more_ok, inject_none, inject_ok, coll_none, coll_ok, comp_none, comp_bound_so, comp_ok, if_tested_so, if_chosen_so, if_ok, let_checked_so, let_bound_so, let_ok, case_chosen_so, case_checked_so, case_armed_so, behind_last, behind_open, behind_some, behind_none, path_checked, not_applied, neg_applied, chain_checked, all_starts, all_more, all_done, fields_starts, fields_more, fields_done, each_starts, each_more, each_done, arms_starts, arms_more, arms_done, arm_bound, arm_ok, steps_starts, steps_unchecked, steps_refused, steps_more, steps_done, quals_starts, quals_ready, quals_more, quals_done, gen_refused, gen_unchecked, gen_untaken, gen_ok, cond_ok}
use Rattle.kl_infer.proofs.typing.Typing.+check.Goals as goal

pub check-returns-in-Const : goal.check-returns-in-Const
check-returns-in-Const t c = const_ok c.args.known.now (names c.args.scope.now) c.args.want c.args.e.now _ c.requires c.value.result _ _ c.in-Const.is c.value.ensures

pub check-returns-in-Name : goal.check-returns-in-Name
check-returns-in-Name t c = name_ok c.args.known.now (names c.args.scope.now) c.args.want c.args.e.now _ c.requires c.name.result _ _ c.in-Name.is c.name.ensures

pub check-returns-in_err-call-in-Call : goal.check-returns-in_err-call-in-Call
check-returns-in_err-call-in-Call t c = handed_on _ _ _ _ c.from_residual-in_err-call-in-Call.ensures.1 (call_asked_so c.args.known.now (names c.args.scope.now) c.args.want c.args.e.now _ c.requires _ _ _ c.deref.ensures.value (Err _) [] _ _ _ c.in-Call.is c.slice-args.ensures c.in_ok-types-in-Call.ensures c.in_err-call-in-Call.ensures)

pub check-check_all-requires : goal.check-check_all-requires
check-check_all-requires t c = (
  search (rules, the_lemmas, arith),
  (
    ready_at _ _ _ _ _ c.deref-in-Call.ensures.value (ready_on _ _ _ _ _ c.in_ok-call-in-Call.ensures.fine c.in_ok-call-in-Call.ensures.keeps (ready_many _ _ _ _ _ _ _ c.in_ok-types-in-Call.ensures c.requires)),
    size_at _ _ _ c.deref-in-Call.ensures.value c.in_ok-types-in-Call.ensures.size,
  ),
)

pub check-returns-in-Call : goal.check-returns-in-Call
check-returns-in-Call t c = call_ok c.args.known.now (names c.args.scope.now) c.args.want c.args.e.now _ c.requires _ _ _ c.deref.ensures.value c.check_all.result _ _ _ _ _ _ c.deref-in-Call.ensures.value c.in-Call.is c.slice-args.ensures c.in_ok-types-in-Call.ensures c.in_ok-call-in-Call.ensures c.check_all.ensures

pub check-record-requires-clause-fields_there : goal.check-record-requires-clause-fields_there
check-record-requires-clause-fields_there t c = labelled_there _ _ _ _ _ c.in_ok-all-in-Rec.ensures c.deref-in-Rec.ensures.value c.in_ok-types-in-Rec.ensures.sorts

pub check-returns-in_err-record-in-Rec : goal.check-returns-in_err-record-in-Rec
check-returns-in_err-record-in-Rec t c = handed_on _ _ _ _ c.from_residual-in_err-record-in-Rec.ensures.1 (record_asked_so c.args.known.now (names c.args.scope.now) c.args.want c.args.e.now _ c.requires _ _ _ c.deref-in-Rec.ensures.value (Err _) [] _ _ _ c.in-Rec.is c.slice-fields.ensures c.in_ok-all-in-Rec.ensures c.in_ok-types-in-Rec.ensures c.in_err-record-in-Rec.ensures)

pub check-check_fields-requires : goal.check-check_fields-requires
check-check_fields-requires t c = (
  search (rules, the_lemmas, arith),
  (
    ready_at _ _ _ _ _ c.deref-in-Rec-2.ensures.value (ready_on _ _ _ _ _ c.in_ok-record-in-Rec.ensures.fine c.in_ok-record-in-Rec.ensures.keeps (ready_many _ _ _ _ _ _ _ c.in_ok-types-in-Rec.ensures c.requires)),
    size_at _ _ _ c.deref-in-Rec-2.ensures.value c.in_ok-types-in-Rec.ensures.size,
  ),
)

pub check-returns-in-Rec : goal.check-returns-in-Rec
check-returns-in-Rec t c = record_ok c.args.known.now (names c.args.scope.now) c.args.want c.args.e.now _ c.requires _ _ _ c.deref-in-Rec.ensures.value c.check_fields.result _ _ _ _ _ _ c.deref-in-Rec-2.ensures.value c.in-Rec.is c.slice-fields.ensures c.in_ok-all-in-Rec.ensures c.in_ok-types-in-Rec.ensures c.in_ok-record-in-Rec.ensures c.check_fields.ensures

pub check-rest-requires-clause-fields_there : goal.check-rest-requires-clause-fields_there
check-rest-requires-clause-fields_there t c = labelled_there _ _ _ _ _ c.in_ok-all-in-More.ensures c.deref-in-More.ensures.value c.in_ok-types-in-More.ensures.sorts

pub check-returns-in_err-rest-in-More : goal.check-returns-in_err-rest-in-More
check-returns-in_err-rest-in-More t c = handed_on _ _ _ _ c.from_residual-in_err-rest-in-More.ensures.1 (more_none c.args.known.now (names c.args.scope.now) c.args.want c.args.e.now _ c.requires _ _ _ c.deref-in-More.ensures.value _ _ _ _ _ c.in-More.is c.slice-fields-in-More.ensures refl c.in_ok-all-in-More.ensures c.in_ok-types-in-More.ensures _ c.in_err-rest-in-More.ensures)

pub check-check_fields-requires-in-More : goal.check-check_fields-requires-in-More
check-check_fields-requires-in-More t c = (
  search (rules, the_lemmas, arith),
  (
    ready_at _ _ _ _ _ c.deref-in-More-2.ensures.value (ready_on _ _ _ _ _ c.in_ok-rest-in-More.ensures.fine c.in_ok-rest-in-More.ensures.keeps (ready_many _ _ _ _ _ _ _ c.in_ok-types-in-More.ensures c.requires)),
    size_at _ _ _ c.deref-in-More-2.ensures.value c.in_ok-types-in-More.ensures.size,
  ),
)

pub check-returns-in_err-check_fields-in-More : goal.check-returns-in_err-check_fields-in-More
check-returns-in_err-check_fields-in-More t c = handed_on _ _ _ _ c.from_residual-in_err-check_fields-in-More.ensures.1 (more_asked_so c.args.known.now (names c.args.scope.now) c.args.want c.args.e.now _ c.requires _ _ _ c.deref-in-More.ensures.value _ _ _ _ _ c.in-More.is c.slice-fields-in-More.ensures refl c.in_ok-all-in-More.ensures c.in_ok-types-in-More.ensures (Err _) _ [] _ _ c.deref-in-More-2.ensures.value c.in_ok-rest-in-More.ensures c.in_err-check_fields-in-More.ensures)

pub check-check-requires : goal.check-check-requires
check-check-requires t c = (search (rules, the_lemmas, arith), ready_on _ _ _ _ _ c.in_ok-check_fields-in-More.ensures.fine c.in_ok-check_fields-in-More.ensures.keeps (ready_new _ _ _ _ _ _ _ c.in_ok-rest-in-More.ensures (ready_many _ _ _ _ _ _ _ c.in_ok-types-in-More.ensures c.requires)))

pub check-returns-in-More : goal.check-returns-in-More
check-returns-in-More t c = more_ok c.args.known.now (names c.args.scope.now) c.args.want c.args.e.now _ c.requires _ _ _ c.deref-in-More.ensures.value _ _ _ _ _ c.in-More.is c.slice-fields-in-More.ensures c.get.ensures c.in_ok-all-in-More.ensures c.in_ok-types-in-More.ensures c.check.result _ _ _ _ _ c.deref-in-More-2.ensures.value c.in_ok-rest-in-More.ensures c.in_ok-check_fields-in-More.ensures c.check.ensures

pub check-applied-requires-clause-called : goal.check-applied-requires-clause-called
check-applied-requires-clause-called t c = signs_called.1

pub check-applied-requires-in-Neg-clause-called : goal.check-applied-requires-in-Neg-clause-called
check-applied-requires-in-Neg-clause-called t c = signs_called.0

pub check-returns-in_err-item-in-Inj : goal.check-returns-in_err-item-in-Inj
check-returns-in_err-item-in-Inj t c = handed_on _ _ _ _ c.from_residual-in_err-item-in-Inj.ensures.1 (inject_none c.args.known.now (names c.args.scope.now) c.args.want c.args.e.now _ c.requires _ _ _ c.in-Inj.is refl _ c.in_err-item-in-Inj.ensures)

pub check-check-requires-in-Inj : goal.check-check-requires-in-Inj
check-check-requires-in-Inj t c = (search (rules, the_lemmas, arith), ready_new _ _ _ _ _ _ _ c.in_ok-item-in-Inj.ensures c.requires)

pub check-returns-in-Inj : goal.check-returns-in-Inj
check-returns-in-Inj t c = inject_ok c.args.known.now (names c.args.scope.now) c.args.want c.args.e.now _ c.requires _ _ _ c.in-Inj.is c.get-in-Inj.ensures c.check-in-Inj.result _ _ _ c.in_ok-item-in-Inj.ensures c.check-in-Inj.ensures

pub check-returns-in_err-item-in-Coll : goal.check-returns-in_err-item-in-Coll
check-returns-in_err-item-in-Coll t c = handed_on _ _ _ _ c.from_residual-in_err-item-in-Coll.ensures.1 (coll_none c.args.known.now (names c.args.scope.now) c.args.want c.args.e.now _ c.requires _ _ _ c.in-Coll.is refl _ c.in_err-item-in-Coll.ensures)

pub check-check_each-requires : goal.check-check_each-requires
check-check_each-requires t c = (search (rules, the_lemmas, arith), ready_new _ _ _ _ _ _ _ c.in_ok-item-in-Coll.ensures c.requires)

pub check-returns-in-Coll : goal.check-returns-in-Coll
check-returns-in-Coll t c = coll_ok c.args.known.now (names c.args.scope.now) c.args.want c.args.e.now _ c.requires _ _ _ c.in-Coll.is c.slice.ensures c.check_each.result _ _ _ c.in_ok-item-in-Coll.ensures c.check_each.ensures

pub check-returns-in_err-item-in-Comp : goal.check-returns-in_err-item-in-Comp
check-returns-in_err-item-in-Comp t c = handed_on _ _ _ _ c.from_residual-in_err-item-in-Comp.ensures.1 (comp_none c.args.known.now (names c.args.scope.now) c.args.want c.args.e.now _ c.requires _ _ _ _ _ c.in-Comp.is refl refl _ c.in_err-item-in-Comp.ensures)

pub check-check_quals-requires : goal.check-check_quals-requires
check-check_quals-requires t c = (search (rules, the_lemmas, arith), ready_block _ _ [] _ _ _ c.new-block.ensures.items tt (ready_nothing _ _ _ _ (ready_on _ _ _ _ _ c.in_ok-item-in-Comp.ensures.fine c.in_ok-item-in-Comp.ensures.keeps c.requires)))

pub check-returns-in_err-check_quals-in-Comp : goal.check-returns-in_err-check_quals-in-Comp
check-returns-in_err-check_quals-in-Comp t c = handed_on _ _ _ _ c.from_residual-in_err-check_quals-in-Comp.ensures.1 (comp_bound_so c.args.known.now (names c.args.scope.now) c.args.want c.args.e.now _ c.requires _ _ _ _ _ c.in-Comp.is refl c.slice-in-Comp.ensures (Err _) _ [] _ _ [] c.new-block.ensures.items c.in_ok-item-in-Comp.ensures c.in_err-check_quals-in-Comp.ensures)

pub check-check-requires-in-Comp : goal.check-check-requires-in-Comp
check-check-requires-in-Comp t c = (search (rules, the_lemmas, arith), ready_block _ _ _ _ _ _ c.deref-in-Comp.ensures.value (binds_there _ _ _ _ _ _ c.new-block.ensures.items c.in_ok-check_quals-in-Comp.ensures) (ready_on _ _ _ _ _ c.in_ok-check_quals-in-Comp.ensures.fine c.in_ok-check_quals-in-Comp.ensures.keeps (ready_new _ _ _ _ _ _ _ c.in_ok-item-in-Comp.ensures c.requires)))

pub check-returns-in-Comp : goal.check-returns-in-Comp
check-returns-in-Comp t c = comp_ok c.args.known.now (names c.args.scope.now) c.args.want c.args.e.now _ c.requires _ _ _ _ _ c.in-Comp.is c.get-in-Comp.ensures c.slice-in-Comp.ensures c.check-in-Comp.result _ _ _ _ _ _ _ c.new-block.ensures.items c.deref-in-Comp.ensures.value c.in_ok-item-in-Comp.ensures c.in_ok-check_quals-in-Comp.ensures c.check-in-Comp.ensures

pub check-check-requires-in-If : goal.check-check-requires-in-If
check-check-requires-in-If t c = (search (rules, the_lemmas, arith), ready_new _ _ _ _ _ _ _ c.in_ok-test-in-If.ensures c.requires)

pub check-returns-in_err-check-in-If : goal.check-returns-in_err-check-in-If
check-returns-in_err-check-in-If t c = handed_on _ _ _ _ c.from_residual-in_err-check-in-If.ensures.1 (if_tested_so c.args.known.now (names c.args.scope.now) c.args.want c.args.e.now _ c.requires _ _ c.in_ok-test-in-If.ensures _ _ _ _ _ _ c.in-If.is c.get-in-If.ensures refl refl (Err _) [] c.in_err-check-in-If.ensures)

pub check-check-requires-in-If-2 : goal.check-check-requires-in-If-2
check-check-requires-in-If-2 t c = (search (rules, the_lemmas, arith), ready_on _ _ _ _ _ c.in_ok-check-in-If.ensures.fine c.in_ok-check-in-If.ensures.keeps (ready_on _ _ _ _ _ c.in_ok-test-in-If.ensures.fine c.in_ok-test-in-If.ensures.keeps c.requires))

pub check-returns-in_err-check-in-If-2 : goal.check-returns-in_err-check-in-If-2
check-returns-in_err-check-in-If-2 t c = handed_on _ _ _ _ c.from_residual-in_err-check-in-If-2.ensures.1 (if_chosen_so c.args.known.now (names c.args.scope.now) c.args.want c.args.e.now _ c.requires _ _ c.in_ok-test-in-If.ensures _ _ _ _ _ _ c.in-If.is c.get-in-If.ensures c.get-in-If-2.ensures refl (Err _) _ [] c.in_ok-check-in-If.ensures c.in_err-check-in-If-2.ensures)

pub check-check-requires-in-If-3 : goal.check-check-requires-in-If-3
check-check-requires-in-If-3 t c = (search (rules, the_lemmas, arith), ready_on _ _ _ _ _ c.in_ok-check-in-If-2.ensures.fine c.in_ok-check-in-If-2.ensures.keeps (ready_on _ _ _ _ _ c.in_ok-check-in-If.ensures.fine c.in_ok-check-in-If.ensures.keeps (ready_on _ _ _ _ _ c.in_ok-test-in-If.ensures.fine c.in_ok-test-in-If.ensures.keeps c.requires)))

pub check-returns-in-If : goal.check-returns-in-If
check-returns-in-If t c = if_ok c.args.known.now (names c.args.scope.now) c.args.want c.args.e.now _ c.requires _ _ c.in_ok-test-in-If.ensures _ _ _ _ _ _ c.in-If.is c.get-in-If.ensures c.get-in-If-2.ensures c.get-in-If-3.ensures c.check-in-If-3.result _ _ _ c.in_ok-check-in-If.ensures c.in_ok-check-in-If-2.ensures c.check-in-If-3.ensures

pub check-check-requires-in-Let : goal.check-check-requires-in-Let
check-check-requires-in-Let t c = (search (rules, the_lemmas, arith), ready_new _ _ _ _ _ _ _ c.in_ok-t-in-Let.ensures c.requires)

pub check-returns-in_err-check-in-Let : goal.check-returns-in_err-check-in-Let
check-returns-in_err-check-in-Let t c = handed_on _ _ _ _ c.from_residual-in_err-check-in-Let.ensures.1 (let_checked_so c.args.known.now (names c.args.scope.now) c.args.want c.args.e.now _ c.requires _ _ c.in_ok-t-in-Let.ensures _ _ _ _ _ c.in-Let.is c.get-in-Let.ensures refl (Err _) [] c.in_err-check-in-Let.ensures)

pub check-takes-requires : goal.check-takes-requires
check-takes-requires t c = ready_block _ _ [] _ _ _ c.new-bound.ensures.items tt (ready_on _ _ _ _ _ c.in_ok-check-in-Let.ensures.fine c.in_ok-check-in-Let.ensures.keeps (ready_new _ _ _ _ _ _ _ c.in_ok-t-in-Let.ensures c.requires))

pub check-returns-in_err-takes-in-Let : goal.check-returns-in_err-takes-in-Let
check-returns-in_err-takes-in-Let t c = handed_on _ _ _ _ c.from_residual-in_err-takes-in-Let.ensures.1 (let_bound_so c.args.known.now (names c.args.scope.now) c.args.want c.args.e.now _ c.requires _ _ c.in_ok-t-in-Let.ensures _ _ _ _ _ c.in-Let.is c.get-in-Let.ensures refl (Err _) _ [] _ [] c.new-bound.ensures.items c.in_ok-check-in-Let.ensures c.in_err-takes-in-Let.ensures)

pub check-check-requires-in-Let-2 : goal.check-check-requires-in-Let-2
check-check-requires-in-Let-2 t c = (search (rules, the_lemmas, arith), ready_block _ _ _ _ _ _ c.deref-in-Let.ensures.value (binds_there _ _ _ _ _ _ c.new-bound.ensures.items c.in_ok-takes-in-Let.ensures) (ready_on _ _ _ _ _ c.in_ok-takes-in-Let.ensures.fine c.in_ok-takes-in-Let.ensures.keeps (ready_on _ _ _ _ _ c.in_ok-check-in-Let.ensures.fine c.in_ok-check-in-Let.ensures.keeps (ready_on _ _ _ _ _ c.in_ok-t-in-Let.ensures.fine c.in_ok-t-in-Let.ensures.keeps c.requires))))

pub check-returns-in-Let : goal.check-returns-in-Let
check-returns-in-Let t c = let_ok c.args.known.now (names c.args.scope.now) c.args.want c.args.e.now _ c.requires _ _ c.in_ok-t-in-Let.ensures _ _ _ _ _ c.in-Let.is c.get-in-Let.ensures c.get-in-Let-2.ensures c.check-in-Let-2.result _ _ _ _ _ _ c.new-bound.ensures.items c.deref-in-Let.ensures.value c.in_ok-check-in-Let.ensures c.in_ok-takes-in-Let.ensures c.check-in-Let-2.ensures

pub check-choice-requires-clause-fields_there : goal.check-choice-requires-clause-fields_there
check-choice-requires-clause-fields_there t c = let r = ready_on _ _ _ _ _ c.in_ok-t-in-Case.ensures.fine c.in_ok-t-in-Case.ensures.keeps (ready_many _ _ _ _ _ _ _ c.in_ok-types-in-Case.ensures c.requires) in labelled_there _ _ _ _ _ c.in_ok-all-in-Case.ensures c.deref-in-Case.ensures.value r.wants

pub check-returns-in_err-choice-in-Case : goal.check-returns-in_err-choice-in-Case
check-returns-in_err-choice-in-Case t c = handed_on _ _ _ _ c.from_residual-in_err-choice-in-Case.ensures.1 (case_chosen_so c.args.known.now (names c.args.scope.now) c.args.want c.args.e.now _ c.requires _ _ _ _ _ _ _ _ _ _ _ _ _ (behind_last _) refl (behind_open _ _ c.is_some.ensures) c.in-Case.is refl c.slice-branches.ensures c.deref-in-Case.ensures.value c.in_ok-all-in-Case.ensures c.in_ok-types-in-Case.ensures c.in_ok-t-in-Case.ensures (Err _) [] c.in_err-choice-in-Case.ensures)

pub check-check-requires-in-Case : goal.check-check-requires-in-Case
check-check-requires-in-Case t c = (search (rules, the_lemmas, arith), ready_on _ _ _ _ _ c.in_ok-choice-in-Case.ensures.fine c.in_ok-choice-in-Case.ensures.keeps (ready_new _ _ _ _ _ _ _ c.in_ok-t-in-Case.ensures (ready_on _ _ _ _ _ c.in_ok-types-in-Case.ensures.fine c.in_ok-types-in-Case.ensures.keeps c.requires)))

pub check-returns-in_err-check-in-Case : goal.check-returns-in_err-check-in-Case
check-returns-in_err-check-in-Case t c = handed_on _ _ _ _ c.from_residual-in_err-check-in-Case.ensures.1 (case_checked_so c.args.known.now (names c.args.scope.now) c.args.want c.args.e.now _ c.requires _ _ _ _ _ _ _ _ _ _ _ _ _ (behind_last _) refl (behind_open _ _ c.is_some.ensures) c.in-Case.is c.get-in-Case.ensures c.slice-branches.ensures c.deref-in-Case.ensures.value c.in_ok-all-in-Case.ensures c.in_ok-types-in-Case.ensures c.in_ok-t-in-Case.ensures _ c.in_ok-choice-in-Case.ensures (Err _) [] c.in_err-check-in-Case.ensures)

pub check-check_branches-requires : goal.check-check_branches-requires
check-check_branches-requires t c = (
  search (rules, the_lemmas, arith),
  (
    ready_both _ _ _ _ _ (ready_on _ _ _ _ _ c.in_ok-check-in-Case.ensures.fine c.in_ok-check-in-Case.ensures.keeps (ready_on _ _ _ _ _ c.in_ok-choice-in-Case.ensures.fine c.in_ok-choice-in-Case.ensures.keeps (ready_on _ _ _ _ _ c.in_ok-t-in-Case.ensures.fine c.in_ok-t-in-Case.ensures.keeps (ready_on _ _ _ _ _ c.in_ok-types-in-Case.ensures.fine c.in_ok-types-in-Case.ensures.keeps c.requires)))) (ready_at _ _ _ _ _ c.deref-in-Case-2.ensures.value (ready_on _ _ _ _ _ c.in_ok-check-in-Case.ensures.fine c.in_ok-check-in-Case.ensures.keeps (ready_on _ _ _ _ _ c.in_ok-choice-in-Case.ensures.fine c.in_ok-choice-in-Case.ensures.keeps (ready_on _ _ _ _ _ c.in_ok-t-in-Case.ensures.fine c.in_ok-t-in-Case.ensures.keeps (ready_many _ _ _ _ _ _ _ c.in_ok-types-in-Case.ensures c.requires))))),
    size_at _ _ _ c.deref-in-Case-2.ensures.value c.in_ok-types-in-Case.ensures.size,
  ),
)

pub check-returns-in_err-check_branches-in-Case : goal.check-returns-in_err-check_branches-in-Case
check-returns-in_err-check_branches-in-Case t c = handed_on _ _ _ _ c.from_residual-in_err-check_branches-in-Case.ensures.1 (case_armed_so c.args.known.now (names c.args.scope.now) c.args.want c.args.e.now _ c.requires _ _ _ _ _ _ _ _ _ _ _ _ _ (behind_last _) refl (behind_open _ _ c.is_some.ensures) c.in-Case.is c.get-in-Case.ensures c.slice-branches.ensures c.deref-in-Case.ensures.value c.in_ok-all-in-Case.ensures c.in_ok-types-in-Case.ensures c.in_ok-t-in-Case.ensures _ c.in_ok-choice-in-Case.ensures (Err _) _ [] _ c.deref-in-Case-2.ensures.value c.in_ok-check-in-Case.ensures c.in_err-check_branches-in-Case.ensures)

pub check-check-requires-in-Some : goal.check-check-requires-in-Some
check-check-requires-in-Some t c = (search (rules, the_lemmas, arith), ready_on _ _ _ _ _ c.in_ok-check_branches-in-Case.ensures.fine c.in_ok-check_branches-in-Case.ensures.keeps (ready_on _ _ _ _ _ c.in_ok-check-in-Case.ensures.fine c.in_ok-check-in-Case.ensures.keeps (ready_on _ _ _ _ _ c.in_ok-choice-in-Case.ensures.fine c.in_ok-choice-in-Case.ensures.keeps (ready_on _ _ _ _ _ c.in_ok-t-in-Case.ensures.fine c.in_ok-t-in-Case.ensures.keeps (ready_on _ _ _ _ _ c.in_ok-types-in-Case.ensures.fine c.in_ok-types-in-Case.ensures.keeps c.requires)))))

pub check-returns-in-Some : goal.check-returns-in-Some
check-returns-in-Some t c = behind_some c.check-in-Some.result c.args.known.now (names c.args.scope.now) c.args.want _ _ _ _ _ _ _ c.in-Some.is c.get-in-Some.ensures (case_armed_so c.args.known.now (names c.args.scope.now) c.args.want c.args.e.now _ c.requires _ _ _ _ _ _ _ _ _ _ _ _ _ (behind_last _) refl (behind_open _ _ c.is_some.ensures) c.in-Case.is c.get-in-Case.ensures c.slice-branches.ensures c.deref-in-Case.ensures.value c.in_ok-all-in-Case.ensures c.in_ok-types-in-Case.ensures c.in_ok-t-in-Case.ensures _ c.in_ok-choice-in-Case.ensures (Ok tt) _ _ _ c.deref-in-Case-2.ensures.value c.in_ok-check-in-Case.ensures c.in_ok-check_branches-in-Case.ensures) c.check-in-Some.ensures

pub check-returns-in-Case : goal.check-returns-in-Case
check-returns-in-Case t c = behind_none c.args.known.now (names c.args.scope.now) c.args.want _ _ _ _ c.in-None.is (case_armed_so c.args.known.now (names c.args.scope.now) c.args.want c.args.e.now _ c.requires _ _ _ _ _ _ _ _ _ _ _ _ _ (behind_last _) refl (behind_open _ _ c.is_some.ensures) c.in-Case.is c.get-in-Case.ensures c.slice-branches.ensures c.deref-in-Case.ensures.value c.in_ok-all-in-Case.ensures c.in_ok-types-in-Case.ensures c.in_ok-t-in-Case.ensures _ c.in_ok-choice-in-Case.ensures (Ok tt) _ _ _ c.deref-in-Case-2.ensures.value c.in_ok-check-in-Case.ensures c.in_ok-check_branches-in-Case.ensures)

pub check-check-requires-in-Path : goal.check-check-requires-in-Path
check-check-requires-in-Path t c = (search (rules, the_lemmas, arith), ready_new _ _ _ _ _ _ _ c.in_ok-t-in-Path.ensures c.requires)

pub check-returns-in_err-check-in-Path : goal.check-returns-in_err-check-in-Path
check-returns-in_err-check-in-Path t c = handed_on _ _ _ _ c.from_residual-in_err-check-in-Path.ensures.1 (path_checked c.args.known.now (names c.args.scope.now) c.args.want c.args.e.now _ c.requires _ _ c.in_ok-t-in-Path.ensures (Err _) [] _ _ _ _ c.in-Path.is c.get-in-Path.ensures refl c.in_err-check-in-Path.ensures)

pub check-returns-in-Path : goal.check-returns-in-Path
check-returns-in-Path t c = leads_on c.follow.result _ _ _ _ _ _ (path_checked c.args.known.now (names c.args.scope.now) c.args.want c.args.e.now _ c.requires _ _ c.in_ok-t-in-Path.ensures (Ok tt) _ _ _ _ _ c.in-Path.is c.get-in-Path.ensures c.slice-in-Path.ensures c.in_ok-check-in-Path.ensures) c.follow.ensures

pub check-returns-in_err-applied-in-Not : goal.check-returns-in_err-applied-in-Not
check-returns-in_err-applied-in-Not t c = handed_on _ _ _ _ c.from_residual-in_err-applied-in-Not.ensures.1 (not_applied c.args.known.now (names c.args.scope.now) c.args.want c.args.e.now _ c.requires _ _ c.in_ok-t-in-Not.ensures (Err _) [] _ _ c.in-Not.is refl c.in_err-applied-in-Not.ensures)

pub check-check-requires-in-Not : goal.check-check-requires-in-Not
check-check-requires-in-Not t c = (search (rules, the_lemmas, arith), ready_on _ _ _ _ _ c.in_ok-applied-in-Not.ensures.fine c.in_ok-applied-in-Not.ensures.keeps (ready_new _ _ _ _ _ _ _ c.in_ok-t-in-Not.ensures c.requires))

pub check-returns-in-Not : goal.check-returns-in-Not
check-returns-in-Not t c = leads_on c.check-in-Not.result _ _ _ _ _ _ (not_applied c.args.known.now (names c.args.scope.now) c.args.want c.args.e.now _ c.requires _ _ c.in_ok-t-in-Not.ensures (Ok tt) _ _ _ c.in-Not.is c.get-in-Not.ensures c.in_ok-applied-in-Not.ensures) c.check-in-Not.ensures

pub check-returns-in_err-applied-in-Neg : goal.check-returns-in_err-applied-in-Neg
check-returns-in_err-applied-in-Neg t c = handed_on _ _ _ _ c.from_residual-in_err-applied-in-Neg.ensures.1 (neg_applied c.args.known.now (names c.args.scope.now) c.args.want c.args.e.now _ c.requires _ _ c.in_ok-t-in-Neg.ensures (Err _) [] _ _ c.in-Neg.is refl c.in_err-applied-in-Neg.ensures)

pub check-check-requires-in-Neg : goal.check-check-requires-in-Neg
check-check-requires-in-Neg t c = (search (rules, the_lemmas, arith), ready_on _ _ _ _ _ c.in_ok-applied-in-Neg.ensures.fine c.in_ok-applied-in-Neg.ensures.keeps (ready_new _ _ _ _ _ _ _ c.in_ok-t-in-Neg.ensures c.requires))

pub check-returns-in-Neg : goal.check-returns-in-Neg
check-returns-in-Neg t c = leads_on c.check-in-Neg.result _ _ _ _ _ _ (neg_applied c.args.known.now (names c.args.scope.now) c.args.want c.args.e.now _ c.requires _ _ c.in_ok-t-in-Neg.ensures (Ok tt) _ _ _ c.in-Neg.is c.get-in-Neg.ensures c.in_ok-applied-in-Neg.ensures) c.check-in-Neg.ensures

pub check-check-requires-in-Chain : goal.check-check-requires-in-Chain
check-check-requires-in-Chain t c = (search (rules, the_lemmas, arith), ready_new _ _ _ _ _ _ _ c.in_ok-t-in-Chain.ensures c.requires)

pub check-returns-in_err-check-in-Chain : goal.check-returns-in_err-check-in-Chain
check-returns-in_err-check-in-Chain t c = handed_on _ _ _ _ c.from_residual-in_err-check-in-Chain.ensures.1 (chain_checked c.args.known.now (names c.args.scope.now) c.args.want c.args.e.now _ c.requires _ _ c.in_ok-t-in-Chain.ensures (Err _) [] _ _ _ _ c.in-Chain.is c.get-in-Chain.ensures refl c.in_err-check-in-Chain.ensures)

pub check-check_steps-requires : goal.check-check_steps-requires
check-check_steps-requires t c = (search (rules, the_lemmas, arith), ready_on _ _ _ _ _ c.in_ok-check-in-Chain.ensures.fine c.in_ok-check-in-Chain.ensures.keeps (ready_both _ _ _ _ _ (ready_new _ _ _ _ _ _ _ c.in_ok-t-in-Chain.ensures c.requires) (ready_on _ _ _ _ _ c.in_ok-t-in-Chain.ensures.fine c.in_ok-t-in-Chain.ensures.keeps c.requires)))

pub check-returns : goal.check-returns
check-returns t c = leads_on c.check_steps.result _ _ _ _ _ _ (chain_checked c.args.known.now (names c.args.scope.now) c.args.want c.args.e.now _ c.requires _ _ c.in_ok-t-in-Chain.ensures (Ok tt) _ _ _ _ _ c.in-Chain.is c.get-in-Chain.ensures c.slice-in-Chain.ensures c.in_ok-check-in-Chain.ensures) c.check_steps.ensures

pub check_all-es-init : goal.check_all-es-init
check_all-es-init t c = all_starts c.args.known.now (names c.args.scope.now) _ c.args.es.now c.args.types.now c.requires.ready.fine

pub check_all-check-requires : goal.check_all-check-requires
check_all-check-requires t c = (search (rules, the_lemmas, arith), one_ready _ _ _ _ c.es.i _ c.es-test.true c.requires.size (ready_on _ _ _ _ _ c.es.invariant.fine c.es.invariant.keeps c.requires.ready))

pub check_all-returns-in_err-check : goal.check_all-returns-in_err-check
check_all-returns-in_err-check t c = handed_on _ _ _ _ c.from_residual.ensures.1 (all_more c.args.known.now (names c.args.scope.now) (Err _) _ _ [] _ c.args.es.now c.args.types.now c.es.i c.index-es-i.result c.requires.size c.es-test.true c.index-es-i.is c.requires.ready c.es.invariant c.in_err-check.ensures)

pub check_all-es-preserved : goal.check_all-es-preserved
check_all-es-preserved t c = all_more c.args.known.now (names c.args.scope.now) (Ok tt) _ _ _ _ c.args.es.now c.args.types.now c.es.i c.index-es-i.result c.requires.size c.es-test.true c.index-es-i.is c.requires.ready c.es.invariant c.in_ok-check.ensures

pub check_all-returns : goal.check_all-returns
check_all-returns t c = all_done c.args.known.now (names c.args.scope.now) _ _ _ c.args.es.now c.args.types.now c.es.i c.requires.size c.es-test.false c.es.invariant

pub check_branch-returns-in_err-takes : goal.check_branch-returns-in_err-takes
check_branch-returns-in_err-takes t c = handed_on _ _ _ _ c.from_residual.ensures.1 (arm_bound c.args.known.now (names c.args.scope.now) _ [] _ _ _ _ [] c.requires c.new-bound.ensures.items (Err _) c.in_err-takes.ensures)

pub check_branch-check-requires : goal.check_branch-check-requires
check_branch-check-requires t c = (search (rules, the_lemmas, arith), ready_block _ _ _ _ _ _ c.deref.ensures.value (binds_there _ _ _ _ _ _ c.new-bound.ensures.items c.in_ok-takes.ensures) (ready_tail _ _ _ _ _ (ready_on _ _ _ _ _ c.in_ok-takes.ensures.fine c.in_ok-takes.ensures.keeps c.requires)))

pub check_branch-returns : goal.check_branch-returns
check_branch-returns t c = arm_ok c.args.known.now (names c.args.scope.now) _ _ _ _ _ _ _ c.requires c.new-bound.ensures.items c.check.result _ _ c.deref.ensures.value c.in_ok-takes.ensures c.check.ensures

pub check_branches-branches-init : goal.check_branches-branches-init
check_branches-branches-init t c = arms_starts c.args.known.now (names c.args.scope.now) _ c.args.branches.now c.args.types.now c.args.want c.requires.ready.fine

pub check_branches-check_branch-requires : goal.check_branches-check_branch-requires
check_branches-check_branch-requires t c = (search (rules, the_lemmas, arith), ready_both _ _ _ _ _ (one_ready _ _ _ _ c.branches.i _ c.branches-test.true c.requires.size (ready_tail _ _ _ _ _ (ready_on _ _ _ _ _ c.branches.invariant.fine c.branches.invariant.keeps c.requires.ready))) (ready_head _ _ _ _ _ (ready_on _ _ _ _ _ c.branches.invariant.fine c.branches.invariant.keeps c.requires.ready)))

pub check_branches-returns-in_err-check_branch : goal.check_branches-returns-in_err-check_branch
check_branches-returns-in_err-check_branch t c = handed_on _ _ _ _ c.from_residual.ensures.1 (arms_more c.args.known.now (names c.args.scope.now) (Err _) _ _ [] _ c.args.branches.now c.args.types.now c.args.want c.branches.i c.index-branches-i.result c.requires.size c.branches-test.true c.index-branches-i.is c.requires.ready c.branches.invariant c.in_err-check_branch.ensures)

pub check_branches-branches-preserved : goal.check_branches-branches-preserved
check_branches-branches-preserved t c = arms_more c.args.known.now (names c.args.scope.now) (Ok tt) _ _ _ _ c.args.branches.now c.args.types.now c.args.want c.branches.i c.index-branches-i.result c.requires.size c.branches-test.true c.index-branches-i.is c.requires.ready c.branches.invariant c.in_ok-check_branch.ensures

pub check_branches-returns : goal.check_branches-returns
check_branches-returns t c = arms_done c.args.known.now (names c.args.scope.now) _ _ _ c.args.branches.now c.args.types.now c.args.want c.branches.i c.requires.size c.branches-test.false c.branches.invariant

pub check_each-es-init : goal.check_each-es-init
check_each-es-init t c = each_starts c.args.known.now (names c.args.scope.now) _ c.args.es.now c.args.item c.requires.fine

pub check_each-check-requires : goal.check_each-check-requires
check_each-check-requires t c = (search (rules, the_lemmas, arith), ready_on _ _ _ _ _ c.es.invariant.fine c.es.invariant.keeps c.requires)

pub check_each-returns-in_err-check : goal.check_each-returns-in_err-check
check_each-returns-in_err-check t c = handed_on _ _ _ _ c.from_residual.ensures.1 (each_more c.args.known.now (names c.args.scope.now) (Err _) _ _ [] _ c.args.es.now c.args.item c.es.i c.index-es-i.result c.es-test.true c.index-es-i.is c.requires c.es.invariant c.in_err-check.ensures)

pub check_each-es-preserved : goal.check_each-es-preserved
check_each-es-preserved t c = each_more c.args.known.now (names c.args.scope.now) (Ok tt) _ _ _ _ c.args.es.now c.args.item c.es.i c.index-es-i.result c.es-test.true c.index-es-i.is c.requires c.es.invariant c.in_ok-check.ensures

pub check_each-returns : goal.check_each-returns
check_each-returns t c = each_done c.args.known.now (names c.args.scope.now) _ _ _ c.args.es.now c.args.item c.es.i c.es-test.false c.es.invariant

pub check_fields-fields-init : goal.check_fields-fields-init
check_fields-fields-init t c = fields_starts c.args.known.now (names c.args.scope.now) _ c.args.fields.now c.args.types.now c.requires.ready.fine

pub check_fields-check-requires : goal.check_fields-check-requires
check_fields-check-requires t c = (search (rules, the_lemmas, arith), one_ready _ _ _ _ c.fields.i _ c.fields-test.true c.requires.size (ready_on _ _ _ _ _ c.fields.invariant.fine c.fields.invariant.keeps c.requires.ready))

pub check_fields-returns-in_err-check : goal.check_fields-returns-in_err-check
check_fields-returns-in_err-check t c = handed_on _ _ _ _ c.from_residual.ensures.1 (fields_more c.args.known.now (names c.args.scope.now) (Err _) _ _ [] _ c.args.fields.now c.args.types.now c.fields.i c.index-fields-i.result _ c.requires.size c.fields-test.true c.index-fields-i.is c.index-fields-i.is c.requires.ready c.fields.invariant c.in_err-check.ensures)

pub check_fields-fields-preserved : goal.check_fields-fields-preserved
check_fields-fields-preserved t c = fields_more c.args.known.now (names c.args.scope.now) (Ok tt) _ _ _ _ c.args.fields.now c.args.types.now c.fields.i c.index-fields-i.result _ c.requires.size c.fields-test.true c.index-fields-i.is c.index-fields-i.is c.requires.ready c.fields.invariant c.in_ok-check.ensures

pub check_fields-returns : goal.check_fields-returns
check_fields-returns t c = fields_done c.args.known.now (names c.args.scope.now) _ _ _ c.args.fields.now c.args.types.now c.fields.i c.requires.size c.fields-test.false c.fields.invariant

pub check_qual-returns-in_err-item-in-Gen : goal.check_qual-returns-in_err-item-in-Gen
check_qual-returns-in_err-item-in-Gen t c = handed_on _ _ _ _ c.from_residual-in_err-item-in-Gen.ensures.1 (gen_refused c.args.known.now (names c.args.scope.now) _ _ c.args.block.now.items [] _ _ _ _ c.requires c.in-Gen.is c.in_ok-all-in-Gen.ensures _ c.in_err-item-in-Gen.ensures)

pub check_qual-check-requires : goal.check_qual-check-requires
check_qual-check-requires t c = (search (rules, qual_lemmas, arith), ready_on _ _ _ _ _ c.in_ok-item-in-Gen.ensures.fine c.in_ok-item-in-Gen.ensures.keeps (ready_new _ _ _ _ _ _ _ c.in_ok-all-in-Gen.ensures (ready_like _ _ _ _ _ _ c.deref.ensures.value c.requires)))

pub check_qual-returns-in_err-check-in-Gen : goal.check_qual-returns-in_err-check-in-Gen
check_qual-returns-in_err-check-in-Gen t c = handed_on _ _ _ _ c.from_residual-in_err-check-in-Gen.ensures.1 (gen_unchecked c.args.known.now (names c.args.scope.now) _ _ c.args.block.now.items _ _ _ _ _ c.requires c.in-Gen.is c.in_ok-all-in-Gen.ensures _ _ c.in_ok-item-in-Gen.ensures c.deref.ensures.value _ c.in_err-check-in-Gen.ensures)

pub check_qual-takes-requires : goal.check_qual-takes-requires
check_qual-takes-requires t c = ready_block _ _ [] _ _ _ c.new-bound.ensures.items tt (ready_on _ _ _ _ _ c.in_ok-check-in-Gen.ensures.fine c.in_ok-check-in-Gen.ensures.keeps (ready_new _ _ _ _ _ _ _ c.in_ok-item-in-Gen.ensures (ready_on _ _ _ _ _ c.in_ok-all-in-Gen.ensures.fine c.in_ok-all-in-Gen.ensures.keeps (ready_like _ _ _ _ _ _ c.deref.ensures.value c.requires))))

pub check_qual-returns-in_err-takes-in-Gen : goal.check_qual-returns-in_err-takes-in-Gen
check_qual-returns-in_err-takes-in-Gen t c = handed_on _ _ _ _ c.from_residual-in_err-takes-in-Gen.ensures.1 (gen_untaken c.args.known.now (names c.args.scope.now) _ _ c.args.block.now.items _ _ _ _ _ c.requires c.in-Gen.is c.in_ok-all-in-Gen.ensures _ _ c.in_ok-item-in-Gen.ensures c.deref.ensures.value _ c.in_ok-check-in-Gen.ensures _ c.new-bound.ensures.items _ c.in_err-takes-in-Gen.ensures)

pub check_qual-check-requires-in-Cond : goal.check_qual-check-requires-in-Cond
check_qual-check-requires-in-Cond t c = (search (rules, qual_lemmas, arith), ready_new _ _ _ _ _ _ _ c.in_ok-test-in-Cond.ensures (ready_like _ _ _ _ _ _ c.deref-in-Cond.ensures.value c.requires))

pub check_qual-returns-in_ok-append-in-Gen : goal.check_qual-returns-in_ok-append-in-Gen
check_qual-returns-in_ok-append-in-Gen t c = gen_ok c.args.known.now (names c.args.scope.now) _ _ c.args.block.now.items _ _ _ _ _ c.requires c.in-Gen.is c.in_ok-all-in-Gen.ensures _ _ c.in_ok-item-in-Gen.ensures c.deref.ensures.value _ c.in_ok-check-in-Gen.ensures _ c.new-bound.ensures.items _ _ _ c.in_ok-append-in-Gen.ensures.items c.in_ok-takes-in-Gen.ensures

pub check_qual-returns-in_ok-test-in-Cond : goal.check_qual-returns-in_ok-test-in-Cond
check_qual-returns-in_ok-test-in-Cond t c = cond_ok c.args.known.now (names c.args.scope.now) c.check-in-Cond.result _ _ _ c.args.block.now.items _ _ _ _ c.requires c.in-Cond.is c.deref-in-Cond.ensures.value c.in_ok-test-in-Cond.ensures c.check-in-Cond.ensures

pub check_quals-quals-init : goal.check_quals-quals-init
check_quals-quals-init t c = quals_starts c.args.known.now (names c.args.scope.now) _ c.args.block.now.items c.args.quals.now c.requires.fine

pub check_quals-check_qual-requires : goal.check_quals-check_qual-requires
check_quals-check_qual-requires t c = (search (rules, qual_lemmas, arith), quals_ready c.args.known.now (names c.args.scope.now) _ _ _ _ _ _ c.quals.invariant c.requires)

pub check_quals-returns-in_err-check_qual : goal.check_quals-returns-in_err-check_qual
check_quals-returns-in_err-check_qual t c = handed_on _ _ _ _ c.from_residual.ensures.1 (quals_more c.args.known.now (names c.args.scope.now) (Err _) _ _ [] _ _ [] _ c.args.quals.now c.quals.i c.index-quals-i.result c.quals-test.true c.index-quals-i.is c.quals.invariant c.in_err-check_qual.ensures)

pub check_quals-quals-preserved : goal.check_quals-quals-preserved
check_quals-quals-preserved t c = quals_more c.args.known.now (names c.args.scope.now) (Ok tt) _ _ _ _ _ _ _ c.args.quals.now c.quals.i c.index-quals-i.result c.quals-test.true c.index-quals-i.is c.quals.invariant c.in_ok-check_qual.ensures

pub check_quals-returns : goal.check_quals-returns
check_quals-returns t c = quals_done c.args.known.now (names c.args.scope.now) _ _ _ _ _ c.args.quals.now c.quals.i c.quals-test.false c.quals.invariant

pub check_steps-steps-init : goal.check_steps-steps-init
check_steps-steps-init t c = record { asks = steps_starts c.args.known.now (names c.args.scope.now) _ c.args.steps.now c.args.first c.args.want c.requires.fine; there = c.requires.wants.0 }

pub check_steps-fresh-requires : goal.check_steps-fresh-requires
check_steps-fresh-requires t c = c.steps.invariant.asks.fine

pub check_steps-check-requires : goal.check_steps-check-requires
check_steps-check-requires t c = (search (rules, the_lemmas, arith), ready_new _ _ _ _ _ _ _ c.in_ok-second.ensures (ready_on _ _ _ _ _ c.steps.invariant.asks.fine c.steps.invariant.asks.keeps c.requires))

pub check_steps-returns-in_err-check : goal.check_steps-returns-in_err-check
check_steps-returns-in_err-check t c = handed_on _ _ _ _ c.from_residual-in_err-check.ensures.1 (steps_unchecked c.args.known.now (names c.args.scope.now) _ _ _ _ c.args.steps.now c.steps.i c.index-steps-i.result _ _ _ _ _ c.steps-test.true c.index-steps-i.is c.index-steps-i.is c.requires c.steps.invariant.there c.steps.invariant.asks c.in_ok-second.ensures _ c.in_err-check.ensures)

pub check_steps-operated-requires-clause-first_there : goal.check_steps-operated-requires-clause-first_there
check_steps-operated-requires-clause-first_there t c = c.in_ok-check.ensures.keeps.sorts _ a_type (c.in_ok-second.ensures.keeps.sorts _ a_type c.steps.invariant.there)

pub check_steps-returns-in_err-t : goal.check_steps-returns-in_err-t
check_steps-returns-in_err-t t c = handed_on _ _ _ _ c.from_residual-in_err-t.ensures.1 (steps_refused c.args.known.now (names c.args.scope.now) _ _ _ _ c.args.steps.now c.steps.i c.index-steps-i.result _ _ _ _ _ c.steps-test.true c.index-steps-i.is c.index-steps-i.is c.requires c.steps.invariant.there c.steps.invariant.asks c.in_ok-second.ensures _ c.index-steps-i-in-steps.result _ c.index-steps-i-in-steps.is c.index-steps-i-in-steps.is c.in_ok-check.ensures _ c.in_err-t.ensures)

pub check_steps-steps-preserved : goal.check_steps-steps-preserved
check_steps-steps-preserved t c = record { asks = steps_more c.args.known.now (names c.args.scope.now) _ _ _ _ c.args.steps.now c.steps.i c.index-steps-i.result _ _ _ _ _ c.steps-test.true c.index-steps-i.is c.index-steps-i.is c.requires c.steps.invariant.there c.steps.invariant.asks c.in_ok-second.ensures _ c.index-steps-i-in-steps.result _ c.index-steps-i-in-steps.is c.index-steps-i-in-steps.is c.in_ok-check.ensures _ _ c.in_ok-t.ensures; there = c.in_ok-t.ensures.sort }

pub check_steps-same-requires-clause-fine : goal.check_steps-same-requires-clause-fine
check_steps-same-requires-clause-fine t c = c.steps.invariant.asks.fine

pub check_steps-same-requires-clause-first_there : goal.check_steps-same-requires-clause-first_there
check_steps-same-requires-clause-first_there t c = c.steps.invariant.there

pub check_steps-same-requires-clause-second_there : goal.check_steps-same-requires-clause-second_there
check_steps-same-requires-clause-second_there t c = c.steps.invariant.asks.keeps.sorts _ a_type c.requires.wants.1.0

pub check_steps-returns : goal.check_steps-returns
check_steps-returns t c = steps_done c.args.known.now (names c.args.scope.now) c.same.result _ _ _ _ c.args.steps.now c.steps.i _ _ c.steps-test.false c.steps.invariant.asks c.same.ensures
