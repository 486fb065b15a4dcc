use Rattle.std.proofs.Common.{ap, ◌∙◌}
use Rattle.kl_syntax.specs.View.{view}
use Rattle.kl_core.specs.Trees as term
use Rattle.kl_core.proofs.Made.{made, made_of_two, made_of_three}
use Rattle.kl_desugar.proofs.Arms.{given_ok, coll_is, comp_is, head_is, if_is, let_is, not_is, neg_is, inj_is, path_is, chain_is, rec_is, written_is, more_is, case_is, call_ok, within_ok}
use Rattle.kl_desugar.proofs.expressions.+tree.Goals as goal

pub tree-returns-in-Coll : goal.tree-returns-in-Coll
tree-returns-in-Coll t c = given_ok c.coll.result c.tree_all.result _ _ _ c.tree_all.ensures c.coll.ensures (λ x u h g. coll_is _ _ _ _ _ _ _ _ c.in-Coll.is c.slice.ensures h g)

pub tree-returns-in-Comp : goal.tree-returns-in-Comp
tree-returns-in-Comp t c = given_ok c.tree_head.result c.tree_opened-opened.result _ _ _ c.tree_opened-opened.ensures c.tree_head.ensures (λ x u o g. comp_is _ _ _ _ _ _ _ _ _ _ _ c.in-Comp.is c.get.ensures c.slice-in-Comp.ensures o g)

pub tree-returns-in-If : goal.tree-returns-in-If
tree-returns-in-If t c = made_of_three _ c.tree_box.result c.tree_box-in-If.result c.tree_box-in-If-2.result c.test.result _ _ _ _ c.test.ensures c.tree_box.ensures c.tree_box-in-If.ensures c.tree_box-in-If-2.ensures
    (λ x y z h g f. if_is _ _ _ _ _ _ _ _ _ _ _ _ c.in-If.is c.get-in-If.ensures c.get-in-If-2.ensures c.get-in-If-3.ensures h g f)

pub tree-returns-in-Let : goal.tree-returns-in-Let
tree-returns-in-Let t c = made_of_two _ c.tree_box-in-Let.result c.tree_within.result c.binding.result _ _ _ c.binding.ensures c.tree_box-in-Let.ensures c.tree_within.ensures
    (λ x y h g. let_is _ _ _ _ _ _ _ _ _ _ c.in-Let.is c.get-in-Let.ensures c.get-in-Let-2.ensures h g)

pub tree-returns-in-Not : goal.tree-returns-in-Not
tree-returns-in-Not t c = given_ok c.one.result c.tree_box-in-Not.result _ _ _ c.tree_box-in-Not.ensures c.one.ensures (λ x u h g. not_is _ _ _ _ _ _ _ c.in-Not.is c.get-in-Not.ensures h g)

pub tree-returns-in-Neg : goal.tree-returns-in-Neg
tree-returns-in-Neg t c = given_ok c.one-in-Neg.result c.tree_box-in-Neg.result _ _ _ c.tree_box-in-Neg.ensures c.one-in-Neg.ensures (λ x u h g. neg_is _ _ _ _ _ _ _ c.in-Neg.is c.get-in-Neg.ensures h g)

pub tree-returns-in-Inj : goal.tree-returns-in-Inj
tree-returns-in-Inj t c = made _ c.tree_box-in-Inj.result c.injection.result _ _ c.injection.ensures c.tree_box-in-Inj.ensures (λ x h. inj_is _ _ _ _ _ _ _ c.in-Inj.is c.get-in-Inj.ensures h)

pub tree-returns-in-Path : goal.tree-returns-in-Path
tree-returns-in-Path t c = given_ok c.project.result c.tree_box-in-Path.result _ _ _ c.tree_box-in-Path.ensures c.project.ensures (λ x u h g. path_is _ _ _ _ _ _ _ _ _ c.in-Path.is c.get-in-Path.ensures c.slice-in-Path.ensures h g)

pub tree-returns-in-Chain : goal.tree-returns-in-Chain
tree-returns-in-Chain t c = given_ok c.tree_steps.result c.tree_box-first.result _ _ _ c.tree_box-first.ensures c.tree_steps.ensures (λ x u h g. chain_is _ _ _ _ _ _ _ _ _ c.in-Chain.is c.get-in-Chain.ensures c.slice-in-Chain.ensures h g)

pub tree-returns-in-Rec : goal.tree-returns-in-Rec
tree-returns-in-Rec t c = given_ok c.record.result c.tree_fields.result _ _ _ c.tree_fields.ensures c.record.ensures (λ x u h g. rec_is _ _ _ _ _ _ _ c.in-Rec.is c.slice-in-Rec.ensures h g)

pub tree-returns-in-More : goal.tree-returns-in-More
tree-returns-in-More t c = made_of_two _ c.record-in-More.result c.tree_box-in-More.result c.extended.result _ _ _ c.extended.ensures
    (given_ok c.record-in-More.result c.tree_fields-in-More.result _ _ _ c.tree_fields-in-More.ensures c.record-in-More.ensures (λ ts u h g. written_is _ _ u _ _ h g)) c.tree_box-in-More.ensures
    (λ u x h g. more_is _ _ _ _ _ _ _ _ _ c.in-More.is c.get-in-More.ensures c.slice-in-More.ensures h g)

pub tree-returns-in-Case : goal.tree-returns-in-Case
tree-returns-in-Case t c = made_of_three _ c.tree_box-in-Case.result c.tree_branches.result c.tree_other.result c.case.result _ _ _ _ c.case.ensures c.tree_box-in-Case.ensures c.tree_branches.ensures c.tree_other.ensures
    (λ x ts u f h g. case_is _ _ _ _ _ _ _ _ _ _ _ c.in-Case.is c.get-in-Case.ensures c.slice-in-Case.ensures h g f)

pub tree_head-returns : goal.tree_head-returns
tree_head-returns t c =
    head_is c.args.opened c.in_ok-opened.opened (view c.args.head.now) c.args.kind c.deref.result.now c.in_ok-head.head c.in_ok-items.items c.into_inner.result _
    c.in_ok-opened.was c.deref.ensures.value c.in_ok-head.ensures c.in_ok-items.ensures (ap term.view c.into_inner.ensures ∙ c.in_ok-wrap.ensures)

pub tree_call-returns : goal.tree_call-returns
tree_call-returns t c = call_ok _ c.args.word.now _ _ _ _ _ c.slice.ensures c.in_ok-args.ensures c.call.ensures

pub tree_within-returns : goal.tree_within-returns
tree_within-returns t c = within_ok _ _ _ _ _ _ _ _ _ c.deref.ensures.value c.in_ok-entered.ensures c.in_ok-body.ensures c.wrap.ensures
