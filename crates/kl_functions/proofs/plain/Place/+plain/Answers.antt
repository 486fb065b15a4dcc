use Rattle.std.proofs.Common.{refl, ap, arith}
use Rattle.std.specs.Option.{option_copied}
use Rattle.kl_functions.specs.Occurrences.{names_of}
use Rattle.kl_functions.specs.Plainly.{fields_at, functions_at, params_at}
use Rattle.kl_functions.proofs.Copying.{const_copied, name_copied, call_copied, rec_copied, more_copied, inj_copied, coll_copied, comp_copied, if_copied, let_copied, case_copied, path_copied, not_copied, neg_copied, chain_copied}
use Rattle.kl_functions.proofs.Copying.{items_next, items_done, steps_next, steps_done, fields_next, fields_done, branches_next, branches_done, comp_made, one_item, part_made, one_handed, all_handed, quals_next, quals_done, quals_behind}
use Rattle.kl_functions.proofs.plain.Place.+plain.Goals as goal

pub expr-returns-in_ok-dup-in-Const : goal.expr-returns-in_ok-dup-in-Const
expr-returns-in_ok-dup-in-Const t c = const_copied (fields_at c.args.self.now) (functions_at c.args.self.now) (params_at c.args.self.now) (names_of c.args.hiding.now) c.args.e.now (option_copied c.args.head) _ _ c.in-Const.is c.in_ok-dup-in-Const.ensures

pub expr-returns-in-Name : goal.expr-returns-in-Name
expr-returns-in-Name t c = name_copied (fields_at c.args.self.now) (functions_at c.args.self.now) (params_at c.args.self.now) (names_of c.args.hiding.now) c.args.e.now (option_copied c.args.head) c.named.result _ c.in-Name.is c.named.ensures

pub expr-returns-in-Call : goal.expr-returns-in-Call
expr-returns-in-Call t c = call_copied (fields_at c.args.self.now) (functions_at c.args.self.now) (params_at c.args.self.now) (names_of c.args.hiding.now) c.args.e.now (option_copied c.args.head) c.handed-args.result c.called.result _ _ _ c.in-Call.is c.slice.ensures c.handed-args.ensures c.called.ensures

pub expr-returns-in-Rec : goal.expr-returns-in-Rec
expr-returns-in-Rec t c = rec_copied (fields_at c.args.self.now) (functions_at c.args.self.now) (params_at c.args.self.now) (names_of c.args.hiding.now) c.args.e.now (option_copied c.args.head) c.fields.result c.record.result _ _ c.in-Rec.is c.slice-in-Rec.ensures c.fields.ensures c.record.ensures

pub expr-returns-in-More : goal.expr-returns-in-More
expr-returns-in-More t c = more_copied (fields_at c.args.self.now) (functions_at c.args.self.now) (params_at c.args.self.now) (names_of c.args.hiding.now) c.args.e.now (option_copied c.args.head) c.fields-fields.result c.part.result c.extended.result _ _ _ c.in-More.is c.slice-in-More.ensures c.fields-fields.ensures c.part.ensures c.extended.ensures

pub expr-returns-in-Inj : goal.expr-returns-in-Inj
expr-returns-in-Inj t c = inj_copied (fields_at c.args.self.now) (functions_at c.args.self.now) (params_at c.args.self.now) (names_of c.args.hiding.now) c.args.e.now (option_copied c.args.head) c.part-in-Inj.result c.injection.result _ _ c.in-Inj.is c.part-in-Inj.ensures c.injection.ensures

pub expr-returns-in-Coll : goal.expr-returns-in-Coll
expr-returns-in-Coll t c = coll_copied (fields_at c.args.self.now) (functions_at c.args.self.now) (params_at c.args.self.now) (names_of c.args.hiding.now) c.args.e.now (option_copied c.args.head) c.items.result c.collection.result _ _ _ c.in-Coll.is c.slice-in-Coll.ensures c.items.ensures c.collection.ensures

pub expr-returns-in-Comp : goal.expr-returns-in-Comp
expr-returns-in-Comp t c = comp_copied (fields_at c.args.self.now) (functions_at c.args.self.now) (params_at c.args.self.now) (names_of c.args.hiding.now) c.args.e.now (option_copied c.args.head) (λ v. names_of v.items) c.quals-quals.result c.comp.result _ _ _ _ _ c.in-Comp.is c.get.ensures c.slice-in-Comp.ensures c.quals-quals.ensures.copied c.quals-quals.ensures.behind c.comp.ensures

pub expr-returns-in-If : goal.expr-returns-in-If
expr-returns-in-If t c = if_copied (fields_at c.args.self.now) (functions_at c.args.self.now) (params_at c.args.self.now) (names_of c.args.hiding.now) c.args.e.now (option_copied c.args.head) c.part-a.result c.part-b.result c.part-c.result c.choice.result _ _ _ c.in-If.is c.part-a.ensures c.part-b.ensures c.part-c.ensures c.choice.ensures

pub expr-returns-in-Let : goal.expr-returns-in-Let
expr-returns-in-Let t c = let_copied (fields_at c.args.self.now) (functions_at c.args.self.now) (params_at c.args.self.now) (names_of c.args.hiding.now) c.args.e.now (option_copied c.args.head) c.part-a-in-Let.result c.within.result c.binding.result _ _ _ _ c.in-Let.is c.get-in-Let.ensures c.part-a-in-Let.ensures c.within.ensures c.binding.ensures

pub expr-returns-in-Case : goal.expr-returns-in-Case
expr-returns-in-Case t c = case_copied (fields_at c.args.self.now) (functions_at c.args.self.now) (params_at c.args.self.now) (names_of c.args.hiding.now) c.args.e.now (option_copied c.args.head) c.part-a-in-Case.result c.branches-branches.result c.rest.result c.case.result _ _ _ _ c.in-Case.is c.slice-in-Case.ensures c.part-a-in-Case.ensures c.branches-branches.ensures c.rest.ensures c.case.ensures

pub expr-returns-in-Path : goal.expr-returns-in-Path
expr-returns-in-Path t c = path_copied (fields_at c.args.self.now) (functions_at c.args.self.now) (params_at c.args.self.now) (names_of c.args.hiding.now) c.args.e.now (option_copied c.args.head) c.part-in-Path.result c.path.result _ _ _ c.in-Path.is c.slice-in-Path.ensures c.part-in-Path.ensures c.path.ensures

pub expr-returns-in-Not : goal.expr-returns-in-Not
expr-returns-in-Not t c = not_copied (fields_at c.args.self.now) (functions_at c.args.self.now) (params_at c.args.self.now) (names_of c.args.hiding.now) c.args.e.now (option_copied c.args.head) c.part-in-Not.result c.negation.result _ c.in-Not.is c.part-in-Not.ensures c.negation.ensures

pub expr-returns-in-Neg : goal.expr-returns-in-Neg
expr-returns-in-Neg t c = neg_copied (fields_at c.args.self.now) (functions_at c.args.self.now) (params_at c.args.self.now) (names_of c.args.hiding.now) c.args.e.now (option_copied c.args.head) c.part-in-Neg.result c.minus.result _ c.in-Neg.is c.part-in-Neg.ensures c.minus.ensures

pub expr-returns-in-Chain : goal.expr-returns-in-Chain
expr-returns-in-Chain t c = chain_copied (fields_at c.args.self.now) (functions_at c.args.self.now) (params_at c.args.self.now) (names_of c.args.hiding.now) c.args.e.now (option_copied c.args.head) c.part-a-in-Chain.result c.steps.result c.chain.result _ _ _ c.in-Chain.is c.slice-in-Chain.ensures c.part-a-in-Chain.ensures c.steps.ensures c.chain.ensures

pub items-items-preserved : goal.items-items-preserved
items-items-preserved t c = items_next (fields_at c.args.self.now) (functions_at c.args.self.now) (params_at c.args.self.now) (names_of c.args.hiding.now) c.args.items.now c.items.item-index c.item-item.result _ c.items.made.items _ c.items-test.true c.item-item.is c.in_ok-push.ensures.items c.in_ok-expr.ensures c.items.invariant

pub items-returns : goal.items-returns
items-returns t c = items_done (fields_at c.args.self.now) (functions_at c.args.self.now) (params_at c.args.self.now) (names_of c.args.hiding.now) c.args.items.now c.items.made.items _ c.items.item-index (omega arith) c.of.ensures c.items.invariant

pub fields-fields-preserved : goal.fields-fields-preserved
fields-fields-preserved t c = fields_next (fields_at c.args.self.now) (functions_at c.args.self.now) (params_at c.args.self.now) (names_of c.args.hiding.now) (option_copied c.args.head) c.args.fields.now c.fields.field-index c.field-item.result _ _ c.fields.made.items _ c.fields-test.true c.field-item.is c.in_ok-push.ensures.items c.in_ok-label.ensures c.in_ok-field.ensures c.fields.invariant

pub fields-returns : goal.fields-returns
fields-returns t c = fields_done (fields_at c.args.self.now) (functions_at c.args.self.now) (params_at c.args.self.now) (names_of c.args.hiding.now) (option_copied c.args.head) c.args.fields.now c.fields.made.items _ c.fields.field-index (omega arith) c.of.ensures c.fields.invariant

pub steps-steps-preserved : goal.steps-steps-preserved
steps-steps-preserved t c = steps_next (fields_at c.args.self.now) (functions_at c.args.self.now) (params_at c.args.self.now) (names_of c.args.hiding.now) c.args.steps.now c.steps.step-index c.step-item.result _ c.steps.made.items _ c.steps-test.true c.step-item.is c.in_ok-push.ensures.items c.in_ok-expr.ensures c.steps.invariant

pub steps-returns : goal.steps-returns
steps-returns t c = steps_done (fields_at c.args.self.now) (functions_at c.args.self.now) (params_at c.args.self.now) (names_of c.args.hiding.now) c.args.steps.now c.steps.made.items _ c.steps.step-index (omega arith) c.of.ensures c.steps.invariant

pub branches-branches-preserved : goal.branches-branches-preserved
branches-branches-preserved t c = branches_next (fields_at c.args.self.now) (functions_at c.args.self.now) (params_at c.args.self.now) (names_of c.args.hiding.now) c.args.branches.now c.branches.branch-index c.branch-item.result _ c.branches.made.items _ c.branches-test.true c.branch-item.is c.in_ok-push.ensures.items c.in_ok-branch.ensures c.branches.invariant

pub branches-returns : goal.branches-returns
branches-returns t c = branches_done (fields_at c.args.self.now) (functions_at c.args.self.now) (params_at c.args.self.now) (names_of c.args.hiding.now) c.args.branches.now c.branches.made.items _ c.branches.branch-index (omega arith) c.of.ensures c.branches.invariant

pub comp-returns : goal.comp-returns
comp-returns t c = comp_made (fields_at c.args.self.now) (functions_at c.args.self.now) (params_at c.args.self.now) (names_of c.deref.result.now) (λ v. names_of v.items) c.expr.result c.comprehension.result c.args.quals c.args.kind c.args.head.now c.in_ok-quals.quals c.in_ok-quals.inner (names_of c.deref.result.now) c.in_ok-quals.was (ap names_of c.deref.ensures.value) c.expr.ensures c.comprehension.ensures

pub part-returns : goal.part-returns
part-returns t c = part_made (fields_at c.args.self.now) (functions_at c.args.self.now) (params_at c.args.self.now) (names_of c.args.hiding.now) c.expr.result c.boxed.result c.args.e.now c.get.result.now c.get.ensures c.expr.ensures c.boxed.ensures

pub handed-returns-in-empty : goal.handed-returns-in-empty
handed-returns-in-empty t c = all_handed (fields_at c.args.self.now) (functions_at c.args.self.now) (params_at c.args.self.now) (names_of c.args.hiding.now) c.items.result c.args.args.now c.args.args.now c.args.head.now refl (λ e. omega arith) c.items.ensures

pub handed-returns-in-len1 : goal.handed-returns-in-len1
handed-returns-in-len1 t c = one_handed (fields_at c.args.self.now) (functions_at c.args.self.now) (params_at c.args.self.now) (names_of c.args.hiding.now) c.expr.result c.one.result c.args.args.now c.e-item.result c.args.head.now (one_item c.args.args.now c.e-item.result (omega arith) c.e-item.is) c.expr.ensures c.one.ensures

pub handed-returns-in-len2-up : goal.handed-returns-in-len2-up
handed-returns-in-len2-up t c = all_handed (fields_at c.args.self.now) (functions_at c.args.self.now) (params_at c.args.self.now) (names_of c.args.hiding.now) c.items-in-len2-up.result c.args.args.now c.args.args.now c.args.head.now refl (λ e. omega arith) c.items-in-len2-up.ensures

pub quals-quals-preserved : goal.quals-quals-preserved
quals-quals-preserved t c = record {
  copied = quals_next (fields_at c.args.self.now) (functions_at c.args.self.now) (params_at c.args.self.now) c.args.quals.now c.quals.qual-index c.qual-item.result _ c.quals.made.items _ (names_of c.args.hiding.now) (names_of c.quals.inner.items) (names_of c.qual.new.hiding.items) c.quals-test.true c.qual-item.is c.in_ok-push.ensures.items c.in_ok-qual.ensures.copied c.quals.invariant.copied;
  behind = quals_behind c.args.quals.now c.quals.qual-index c.qual-item.result (names_of c.args.hiding.now) (names_of c.quals.inner.items) (names_of c.qual.new.hiding.items) c.quals-test.true c.qual-item.is c.in_ok-qual.ensures.behind c.quals.invariant.behind;
}

pub quals-returns-clause-copied : goal.quals-returns-clause-copied
quals-returns-clause-copied t c = quals_done (fields_at c.args.self.now) (functions_at c.args.self.now) (params_at c.args.self.now) c.args.quals.now c.quals.made.items _ c.quals.qual-index (names_of c.args.hiding.now) (names_of c.quals.inner.items) (omega arith) c.of.ensures c.quals.invariant.copied
