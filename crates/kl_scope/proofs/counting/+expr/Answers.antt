use Rattle.std.proofs.Common.{◌-◌, get_or, Option, ◌∙◌, ap, sym}
use Rattle.std.specs.Option.{option_map}
use Rattle.kl_syntax.specs.declared.tree.Branch.{out-Branch}
use Rattle.kl_syntax.specs.declared.tree.Expr.{Expr}
use Rattle.kl_syntax.specs.View.{view, rest_of, steps_view, pattern_view}
use Rattle.kl_scope.specs.Caps.{capped}
use Rattle.kl_scope.specs.Sizes.{leaf, sized, sized_branches}
use Rattle.kl_scope.proofs.SizeLemmas.{up_node, up_beside, up_matched, up_chosen, up_qualified, up_chained, up_projected, leaf_is, no_parts_is}
use Rattle.kl_scope.proofs.SizeForms.{at_back, read_back, seen, qual_seen, at_expr, at_items, at_fields, at_quals, at_steps, at_labels, at_branches, call_form, record_form, more_form, coll_form, comp_form, if_form, let_form, case_form, chain_form, path_form, gen_form, cond_form, branch_form, const_form, inject_form, not_form, neg_form, items_more, items_none, fields_more, fields_none, steps_more}
use Rattle.kl_scope.proofs.counting.+expr.Goals as goal
use Rattle.kl_base.proofs.Places.{drop_at}

pub branch-returns : goal.branch-returns
branch-returns t c = λ rest h.
    up_beside c.beside.result c.matched.result c.args.after _ _ c.beside.ensures
    (up_matched (pattern_view (out-Branch c.args.branch.now).pat) c.matched.result leaf c.expr-body.result leaf (sized (view (out-Branch c.args.branch.now).body) c.args.known.now) c.args.known.now c.matched.ensures leaf_is c.expr-body.ensures) h
    ∙ ap capped (sym (branch_form c.args.branch.now rest c.args.known.now))

pub expr-returns-in-Const : goal.expr-returns-in-Const
expr-returns-in-Const t c = seen c.args.e.now _ _ _ c.args.known.now c.in-Const.is (const_form _ _) leaf_is

pub expr-returns-in-Call : goal.expr-returns-in-Call
expr-returns-in-Call t c =
    seen c.args.e.now _ c.node.result _ c.args.known.now c.in-Call.is (call_form c.in-Call.word c.in-Call.args c.args.known.now)
    (up_node c.node.result c.beside.result _ c.node.ensures
    (up_beside c.beside.result c.items.result c.callee-callee.result _ _ c.beside.ensures (at_items c.slice.result.now c.in-Call.args c.items.result c.args.known.now c.items.ensures c.slice.ensures) c.callee-callee.ensures))

pub expr-returns-in-Rec : goal.expr-returns-in-Rec
expr-returns-in-Rec t c =
    seen c.args.e.now _ c.node-in-Rec.result _ c.args.known.now c.in-Rec.is (record_form c.in-Rec.entries c.args.known.now)
    (up_node c.node-in-Rec.result c.fields.result _ c.node-in-Rec.ensures (at_fields c.slice-in-Rec.result.now c.in-Rec.entries c.fields.result c.args.known.now c.fields.ensures c.slice-in-Rec.ensures))

pub expr-returns-in-More : goal.expr-returns-in-More
expr-returns-in-More t c =
    seen c.args.e.now _ c.node-in-More-2.result _ c.args.known.now c.in-More.is (more_form c.in-More.entries c.in-More.base c.args.known.now)
    (up_node c.node-in-More-2.result c.beside-in-More.result _ c.node-in-More-2.ensures
    (up_beside c.beside-in-More.result c.node-in-More.result c.expr-base.result _ _ c.beside-in-More.ensures
    (up_node c.node-in-More.result c.fields-in-More.result _ c.node-in-More.ensures (at_fields c.slice-in-More.result.now c.in-More.entries c.fields-in-More.result c.args.known.now c.fields-in-More.ensures c.slice-in-More.ensures))
    (at_expr c.get.result.now c.in-More.base c.expr-base.result c.args.known.now c.expr-base.ensures c.get.ensures)))

pub expr-returns-in-Inj : goal.expr-returns-in-Inj
expr-returns-in-Inj t c =
    seen c.args.e.now _ c.node-in-Inj.result _ c.args.known.now c.in-Inj.is (inject_form c.in-Inj.field-0 c.in-Inj.a c.args.known.now)
    (up_node c.node-in-Inj.result c.expr.result _ c.node-in-Inj.ensures (at_expr c.get-in-Inj.result.now c.in-Inj.a c.expr.result c.args.known.now c.expr.ensures c.get-in-Inj.ensures))

pub expr-returns-in-Coll : goal.expr-returns-in-Coll
expr-returns-in-Coll t c =
    seen c.args.e.now _ c.node-in-Coll.result _ c.args.known.now c.in-Coll.is (coll_form c.in-Coll.field-0 c.in-Coll.parts c.args.known.now)
    (up_node c.node-in-Coll.result c.items-in-Coll.result _ c.node-in-Coll.ensures (at_items c.slice-in-Coll.result.now c.in-Coll.parts c.items-in-Coll.result c.args.known.now c.items-in-Coll.ensures c.slice-in-Coll.ensures))

pub expr-returns-in-Comp : goal.expr-returns-in-Comp
expr-returns-in-Comp t c =
    seen c.args.e.now _ c.quals.result _ c.args.known.now c.in-Comp.is (comp_form c.in-Comp.field-0 c.in-Comp.head c.in-Comp.qualifiers c.args.known.now)
    (up_qualified _ c.quals.result c.node-last.result _ c.args.known.now (at_quals c.slice-in-Comp.result.now c.in-Comp.qualifiers c.quals.result c.node-last.result c.args.known.now c.quals.ensures c.slice-in-Comp.ensures)
    (up_node c.node-last.result c.expr-in-Comp.result _ c.node-last.ensures (at_expr c.get-in-Comp.result.now c.in-Comp.head c.expr-in-Comp.result c.args.known.now c.expr-in-Comp.ensures c.get-in-Comp.ensures)))

pub expr-returns-in-If : goal.expr-returns-in-If
expr-returns-in-If t c =
    seen c.args.e.now _ c.node-in-If.result _ c.args.known.now c.in-If.is (if_form c.in-If.a c.in-If.b c.in-If.c c.args.known.now)
    (up_node c.node-in-If.result c.beside-in-If.result _ c.node-in-If.ensures
    (up_beside c.beside-in-If.result c.expr-in-If-2.result c.beside-rest.result _ _ c.beside-in-If.ensures
    (at_expr c.get-in-If-3.result.now c.in-If.a c.expr-in-If-2.result c.args.known.now c.expr-in-If-2.ensures c.get-in-If-3.ensures)
    (up_beside c.beside-rest.result c.expr-in-If.result c.expr-last.result _ _ c.beside-rest.ensures
    (at_expr c.get-in-If-2.result.now c.in-If.b c.expr-in-If.result c.args.known.now c.expr-in-If.ensures c.get-in-If-2.ensures)
    (at_expr c.get-in-If.result.now c.in-If.c c.expr-last.result c.args.known.now c.expr-last.ensures c.get-in-If.ensures))))

pub expr-returns-in-Let : goal.expr-returns-in-Let
expr-returns-in-Let t c =
    seen c.args.e.now _ c.node-in-Let.result _ c.args.known.now c.in-Let.is (let_form c.in-Let.pattern c.in-Let.a c.in-Let.b c.args.known.now)
    (up_node c.node-in-Let.result c.beside-in-Let.result _ c.node-in-Let.ensures
    (up_beside c.beside-in-Let.result c.expr-in-Let.result c.matched-rest.result _ _ c.beside-in-Let.ensures
    (at_expr c.get-in-Let-2.result.now c.in-Let.a c.expr-in-Let.result c.args.known.now c.expr-in-Let.ensures c.get-in-Let-2.ensures)
    (up_matched (pattern_view c.in-Let.pattern) c.matched-rest.result leaf c.expr-body.result leaf _ c.args.known.now c.matched-rest.ensures leaf_is
    (at_expr c.get-in-Let.result.now c.in-Let.b c.expr-body.result c.args.known.now c.expr-body.ensures c.get-in-Let.ensures))))

pub expr-returns-in-Case : goal.expr-returns-in-Case
expr-returns-in-Case t c =
    seen c.args.e.now _ c.node-in-Case.result _ c.args.known.now c.in-Case.is (case_form c.in-Case.subject c.in-Case.choices c.in-Case.rest c.args.known.now)
    (up_node c.node-in-Case.result c.beside-in-Case.result _ c.node-in-Case.ensures
    (up_beside c.beside-in-Case.result c.expr-in-Case.result c.branches-rest.result _ _ c.beside-in-Case.ensures
    (at_expr c.get-in-Case.result.now c.in-Case.subject c.expr-in-Case.result c.args.known.now c.expr-in-Case.ensures c.get-in-Case.ensures)
    (at_branches c.slice-in-Case.result.now c.in-Case.choices (rest_of (option_map view c.in-Case.rest)) c.branches-rest.result c.args.known.now
    (c.branches-rest.ensures (rest_of (option_map view c.in-Case.rest)) c.otherwise-last.ensures) c.slice-in-Case.ensures)))

pub expr-returns-in-Path : goal.expr-returns-in-Path
expr-returns-in-Path t c =
    seen c.args.e.now _ c.projected.result _ c.args.known.now c.in-Path.is (path_form c.in-Path.a c.in-Path.labels c.args.known.now)
    (up_projected c.in-Path.labels c.projected.result c.expr-in-Path.result _ (at_labels c.slice-in-Path.result.now c.in-Path.labels c.projected.result c.expr-in-Path.result c.projected.ensures c.slice-in-Path.ensures)
    (at_expr c.get-in-Path.result.now c.in-Path.a c.expr-in-Path.result c.args.known.now c.expr-in-Path.ensures c.get-in-Path.ensures))

pub expr-returns-in-Not : goal.expr-returns-in-Not
expr-returns-in-Not t c =
    seen c.args.e.now _ c.node-in-Not.result _ c.args.known.now c.in-Not.is (not_form c.in-Not.a c.args.known.now)
    (up_node c.node-in-Not.result c.expr-in-Not.result _ c.node-in-Not.ensures (at_expr c.get-in-Not.result.now c.in-Not.a c.expr-in-Not.result c.args.known.now c.expr-in-Not.ensures c.get-in-Not.ensures))

pub expr-returns-in-Neg : goal.expr-returns-in-Neg
expr-returns-in-Neg t c =
    seen c.args.e.now _ c.node-in-Neg.result _ c.args.known.now c.in-Neg.is (neg_form c.in-Neg.a c.args.known.now)
    (up_node c.node-in-Neg.result c.expr-in-Neg.result _ c.node-in-Neg.ensures (at_expr c.get-in-Neg.result.now c.in-Neg.a c.expr-in-Neg.result c.args.known.now c.expr-in-Neg.ensures c.get-in-Neg.ensures))

pub expr-returns-in-Chain : goal.expr-returns-in-Chain
expr-returns-in-Chain t c =
    seen c.args.e.now _ c.steps.result _ c.args.known.now c.in-Chain.is (chain_form c.in-Chain.first c.in-Chain.rest c.args.known.now)
    (up_chained (steps_view c.in-Chain.rest) c.steps.result c.expr-in-Chain.result _ c.args.known.now
    (at_steps c.slice-in-Chain.result.now c.in-Chain.rest c.steps.result c.expr-in-Chain.result c.args.known.now c.steps.ensures c.slice-in-Chain.ensures)
    (at_expr c.get-in-Chain.result.now c.in-Chain.first c.expr-in-Chain.result c.args.known.now c.expr-in-Chain.ensures c.get-in-Chain.ensures))

pub items-items-init : goal.items-items-init
items-items-init t c = items_none c.args.items.now c.args.known.now

pub items-items-preserved : goal.items-items-preserved
items-items-preserved t c =
    items_more c.args.items.now c.items.i c.index-items-i.result c.beside-size.result c.expr.result c.items.size c.args.known.now
    (at_back c.args.items.now c.items.i c.index-items-i.result c.items-test.true c.items.auto.i c.index-items-i.is) c.beside-size.ensures c.expr.ensures c.items.invariant

pub fields-fields-init : goal.fields-fields-init
fields-fields-init t c = fields_none c.args.fields.now c.args.known.now

pub fields-fields-preserved : goal.fields-fields-preserved
fields-fields-preserved t c =
    fields_more c.args.fields.now c.fields.i (get_or c.args.fields.now (c.fields.i - 1) c.index-fields-i.result) c.beside-size.result c.expr.result c.fields.size c.args.known.now
    (read_back c.args.fields.now c.fields.i c.index-fields-i.result c.fields-test.true c.fields.auto.i c.index-fields-i.is) c.beside-size.ensures c.expr.ensures c.fields.invariant

pub otherwise-returns-in-None : goal.otherwise-returns-in-None
otherwise-returns-in-None t c = no_parts_is ∙ ap (λ (z : Option Expr). capped (sized_branches (rest_of (option_map view z)) c.args.known.now)) (sym c.in-None.is)

pub qual-returns-in-Gen : goal.qual-returns-in-Gen
qual-returns-in-Gen t c = λ rest last h. qual_seen c.args.qual.now _ rest c.node.result _ last c.args.known.now c.in-Gen.is (gen_form c.in-Gen.pattern c.in-Gen.e rest last c.args.known.now)
    (up_node c.node.result c.beside.result _ c.node.ensures
    (up_beside c.beside.result c.matched.result c.expr-items.result _ _ c.beside.ensures
    (up_matched (pattern_view c.in-Gen.pattern) c.matched.result leaf c.args.after leaf _ c.args.known.now c.matched.ensures leaf_is h) c.expr-items.ensures))

pub qual-returns-in-Cond : goal.qual-returns-in-Cond
qual-returns-in-Cond t c = λ rest last h. qual_seen c.args.qual.now _ rest c.chosen.result _ last c.args.known.now c.in-Cond.is (cond_form c.in-Cond.e rest last c.args.known.now)
    (up_chosen c.chosen.result c.expr.result c.args.after _ _ c.chosen.ensures c.expr.ensures h)

pub steps-steps-preserved : goal.steps-steps-preserved
steps-steps-preserved t c =
    steps_more c.args.steps.now c.steps.step-index c.step-item.result c.node-size.result c.beside.result c.beside-parts.result c.expr.result c.third.result c.steps.size _ c.args.known.now
    (drop_at c.args.steps.now c.steps.step-index c.step-item.result c.steps-test.true c.step-item.is) c.node-size.ensures c.beside.ensures c.beside-parts.ensures c.expr.ensures c.third.ensures c.steps.invariant
