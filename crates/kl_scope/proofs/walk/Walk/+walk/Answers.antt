use Rattle.std.proofs.Common.{get_or, length, refl, ap, ◌∙◌, map, [], rules}
use Rattle.kl_syntax.specs.declared.tree.Expr.{the_lemmas}
use Rattle.kl_syntax.specs.declared.tree.Qual.{the_lemmas as qual_lemmas}
use Rattle.kl_syntax.specs.declared.tree.Branch.{out-Branch}
use Rattle.kl_syntax.specs.View.{view, qual_view, branch_view}
use Rattle.kl_scope.specs.Findings.{findings_all, findings_fields, findings_quals, findings_branches, findings_steps, behind, repeated}
use Rattle.kl_scope.specs.Gathering.{gathered}
use Rattle.kl_scope.specs.Resolved.{resolved_all, resolved_fields, resolved_quals, resolved_branches, resolved_steps}
use Rattle.kl_scope.specs.Walks.{same_scope, expr_front, field_front, step_front}
use Rattle.kl_scope.proofs.ArmLemmas.{behind_ok, behind_both, behind_walked, next_ok, head_is, body_is, call_ok, fields_ok, more_is, coll_ok, comp_is, if_is, let_is, case_is, chain_is, gen_is, cond_is, exps_walked, call_walked, fields_walked, quals_walked, branches_walked, branch_is, steps_walked}
use Rattle.kl_scope.proofs.WalkLemmas.{item_walked, unvisited_more, unvisited_item, list_walked, expr_in_front, field_in_front, step_in_front}
use Rattle.kl_scope.proofs.walk.Walk.+walk.Goals as goal

pub expr-returns-in-Call : goal.expr-returns-in-Call
expr-returns-in-Call t c = call_ok c.call.result c.args.e.now _ c.in-Call.word c.call.new.word _ c.in-Call.args c.call.new.args _ _ _ c.in-Call.is (first_of (search rules, search (rules, the_lemmas), search (rules, the_lemmas, c.in-Call.is))) c.in-Call.word-is c.in-Call.args-is c.call.ensures

pub expr-returns-in-Rec : goal.expr-returns-in-Rec
expr-returns-in-Rec t c = fields_ok c.record.result c.args.e.now _ c.in-Rec.fields c.record.new.entries _ _ _ c.in-Rec.is (first_of (search rules, search (rules, the_lemmas), search (rules, the_lemmas, c.in-Rec.is))) c.in-Rec.fields-is c.record.ensures

pub expr-returns-in-More : goal.expr-returns-in-More
expr-returns-in-More t c =
    behind_ok c.record-begun.result c.next.result c.record-begun.ensures c.next.ensures
    (more_is c.args.e.now _ c.in-More.base c.next.new.e _ c.in-More.fields c.record-begun.new.entries _ c.args.self.now c.record-begun.new.self c.next.new.self c.in-More.is (first_of (search rules, search (rules, the_lemmas), search (rules, the_lemmas, c.in-More.is)))
    c.in-More.fields-is c.in-More.base-is)

pub expr-returns-in-Coll : goal.expr-returns-in-Coll
expr-returns-in-Coll t c = coll_ok c.items.result c.args.e.now _ c.in-Coll.field-0 c.in-Coll.items c.items.new.items _ _ _ c.in-Coll.is (first_of (search rules, search (rules, the_lemmas), search (rules, the_lemmas, c.in-Coll.is))) c.in-Coll.items-is c.items.ensures

pub items-items-preserved : goal.items-items-preserved
items-items-preserved t c = record {
  unvisited = unvisited_more c.slice_mut-items.result.now c.items.items c.items.i _ c.items.invariant.unvisited;
  walked =
      let x = get_or c.items.items c.items.i c.index-items-i.result in
      item_walked resolved_all findings_all same_scope expr_front c.slice_mut-items.result.now c.items.items c.items.i x c.expr.new.e _ c.items.self c.expr.new.self c.items-test.true c.items.auto.items
      (unvisited_item c.slice_mut-items.result.now c.items.items c.items.i c.index-items-i.result c.items-test.true c.items.invariant.unvisited) c.items.invariant.walked
      (expr_in_front (view x) (view c.expr.new.e) c.items.self c.expr.new.self c.in_ok-expr.ensures);
}

pub items-returns : goal.items-returns
items-returns t c = exps_walked c.args.items.now _ c.args.self.now c.items.self (list_walked resolved_all findings_all same_scope expr_front c.args.items.now c.slice_mut-items.result.now c.items.items c.items.i c.args.self.now c.items.self c.slice_mut-items.ensures.value c.items-test.false c.items.auto.items c.items.invariant.walked)

pub call-returns : goal.call-returns
call-returns t c =
    call_walked c.args.word.now c.name.new.word c.args.args.now _ c.called-sense.result _ c.args.self.now (record { alloc = c.args.self.now.alloc; names = c.args.self.now.names; findings = c.name.new.self }) c.items.new.self
    refl c.called-sense.ensures (ap length c.slice.ensures) c.in_ok-name.ensures.meant c.in_ok-name.ensures.found c.in_ok-items.ensures

pub record-fields-preserved : goal.record-fields-preserved
record-fields-preserved t c = record {
  unvisited = unvisited_more c.slice_mut-entries.result.now c.fields.entries c.fields.i _ c.fields.invariant.unvisited;
  walked =
      let x = get_or c.fields.entries c.fields.i c.index-entries-i.result in
      item_walked resolved_fields findings_fields same_scope field_front c.slice_mut-entries.result.now c.fields.entries c.fields.i x (x.0, c.expr.new.e) _ c.fields.self c.expr.new.self c.fields-test.true c.fields.auto.entries
      (unvisited_item c.slice_mut-entries.result.now c.fields.entries c.fields.i c.index-entries-i.result c.fields-test.true c.fields.invariant.unvisited) c.fields.invariant.walked
      (field_in_front x.0 (view x.1) (view c.expr.new.e) c.fields.self c.expr.new.self c.in_ok-expr.ensures);
}

pub record-returns : goal.record-returns
record-returns t c =
    fields_walked c.args.entries.now _ c.args.self.now _ c.fields.self refl (c.in_ok-labels.ensures ∙ ap (λ fs. gathered c.args.self.now.findings (repeated [] (map (λ f. f.0) fs))) c.slice.ensures)
    (list_walked resolved_fields findings_fields same_scope field_front c.args.entries.now c.slice_mut-entries.result.now c.fields.entries c.fields.i _ c.fields.self c.slice_mut-entries.ensures.value c.fields-test.false c.fields.auto.entries c.fields.invariant.walked)

pub quals-quals-preserved : goal.quals-quals-preserved
quals-quals-preserved t c = record {
  unvisited = unvisited_more c.slice_mut-quals.result.now c.quals.quals c.quals.i _ c.quals.invariant.unvisited;
  walked =
      let x = get_or c.quals.quals c.quals.i c.index-quals-i.result in
      item_walked resolved_quals findings_quals behind qual_view c.slice_mut-quals.result.now c.quals.quals c.quals.i x c.qual.new.qual _ c.quals.self c.qual.new.self c.quals-test.true c.quals.auto.quals
      (unvisited_item c.slice_mut-quals.result.now c.quals.quals c.quals.i c.index-quals-i.result c.quals-test.true c.quals.invariant.unvisited) c.quals.invariant.walked
      (c.in_ok-qual.ensures);
}

pub quals-returns : goal.quals-returns
quals-returns t c = quals_walked c.args.quals.now _ c.args.self.now c.quals.self (list_walked resolved_quals findings_quals behind qual_view c.args.quals.now c.slice_mut-quals.result.now c.quals.quals c.quals.i c.args.self.now c.quals.self c.slice_mut-quals.ensures.value c.quals-test.false c.quals.auto.quals c.quals.invariant.walked)

pub branches-branches-preserved : goal.branches-branches-preserved
branches-branches-preserved t c = record {
  unvisited = unvisited_more c.slice_mut-branches.result.now c.branches.branches c.branches.i _ c.branches.invariant.unvisited;
  walked =
      let x = get_or c.branches.branches c.branches.i c.index-branches-i.result in
      item_walked resolved_branches findings_branches same_scope branch_view c.slice_mut-branches.result.now c.branches.branches c.branches.i x c.branch-self.new.branch _ c.branches.self c.branch-self.new.self c.branches-test.true c.branches.auto.branches
      (unvisited_item c.slice_mut-branches.result.now c.branches.branches c.branches.i c.index-branches-i.result c.branches-test.true c.branches.invariant.unvisited) c.branches.invariant.walked
      (c.in_ok-branch.ensures);
}

pub branches-returns : goal.branches-returns
branches-returns t c =
    behind_walked _ _ c.in_ok-before.was
    (branches_walked c.args.branches.now _ c.args.self.now _ c.branches.self refl (c.in_ok-branch_labels.ensures ∙ ap (λ bs. gathered c.args.self.now.findings (repeated [] (map (λ b. (out-Branch b).label) bs))) c.slice.ensures)
    (list_walked resolved_branches findings_branches same_scope branch_view c.args.branches.now c.slice_mut-branches.result.now c.branches.branches c.branches.i _ c.branches.self c.slice_mut-branches.ensures.value c.branches-test.false c.branches.auto.branches c.branches.invariant.walked))

pub branch-returns : goal.branch-returns
branch-returns t c =
    branch_is c.args.branch.now c.sure.new.pattern c.expr.new.e c.depth-depth.result c.args.self.now c.sure.new.self c.expr.new.self c.leave.new.self c.depth-depth.ensures c.in_ok-sure.ensures c.in_ok-expr.ensures c.in_ok-leave.ensures

pub steps-steps-preserved : goal.steps-steps-preserved
steps-steps-preserved t c = record {
  unvisited = unvisited_more c.slice_mut-steps.result.now c.steps.steps c.steps.i _ c.steps.invariant.unvisited;
  walked =
      let x = get_or c.steps.steps c.steps.i c.index-steps-i.result in
      item_walked resolved_steps findings_steps same_scope step_front c.slice_mut-steps.result.now c.steps.steps c.steps.i x (x.0, c.expr.new.e) _ c.steps.self c.expr.new.self c.steps-test.true c.steps.auto.steps
      (unvisited_item c.slice_mut-steps.result.now c.steps.steps c.steps.i c.index-steps-i.result c.steps-test.true c.steps.invariant.unvisited) c.steps.invariant.walked
      (step_in_front x.0 (view x.1) (view c.expr.new.e) c.steps.self c.expr.new.self c.in_ok-expr.ensures);
}

pub steps-returns : goal.steps-returns
steps-returns t c = behind_walked _ _ c.in_ok-before.was (steps_walked c.args.steps.now _ c.args.self.now c.steps.self (list_walked resolved_steps findings_steps same_scope step_front c.args.steps.now c.slice_mut-steps.result.now c.steps.steps c.steps.i c.args.self.now c.steps.self c.slice_mut-steps.ensures.value c.steps-test.false c.steps.auto.steps c.steps.invariant.walked))

pub expr-returns-in-Comp : goal.expr-returns-in-Comp
expr-returns-in-Comp t c =
    behind_ok c.quals-opened.result c.head.result c.quals-opened.ensures c.head.ensures
    (comp_is c.args.e.now _ c.in-Comp.field-0 c.in-Comp.head c.head.new.head _ c.in-Comp.quals c.quals-opened.new.quals _ c.depth-depth.result c.args.self.now c.quals-opened.new.self c.head.new.self
    c.in-Comp.is (first_of (search rules, search (rules, the_lemmas), search (rules, the_lemmas, c.in-Comp.is))) c.in-Comp.head-is c.in-Comp.quals-is c.depth-depth.ensures)

pub expr-returns-in-If : goal.expr-returns-in-If
expr-returns-in-If t c =
    behind_ok c.next-chosen.result c.next-in-If.result (behind_both _ _ c.boxed-tested.result c.next-chosen.result c.boxed-tested.ensures c.next-chosen.ensures) c.next-in-If.ensures
    (λ h l. if_is c.args.e.now _ c.in-If.a c.in-If.b c.in-If.c _ _ _ c.boxed-tested.new.e c.next-chosen.new.e c.next-in-If.new.e
    c.args.self.now c.boxed-tested.new.self c.next-chosen.new.self c.next-in-If.new.self c.in-If.is (first_of (search rules, search (rules, the_lemmas), search (rules, the_lemmas, c.in-If.is)))
    c.in-If.a-is c.in-If.b-is c.in-If.c-is h.0 h.1 l)

pub expr-returns-in-Let : goal.expr-returns-in-Let
expr-returns-in-Let t c =
    behind_ok c.boxed-bound.result c.body.result c.boxed-bound.ensures c.body.ensures
    (let_is c.args.e.now _ c.in-Let.pattern c.body.new.pattern _ c.in-Let.a c.in-Let.b c.boxed-bound.new.e c.body.new.body _ _
    c.args.self.now c.boxed-bound.new.self c.body.new.self c.in-Let.is (first_of (search rules, search (rules, the_lemmas), search (rules, the_lemmas, c.in-Let.is))) c.in-Let.pattern-is c.in-Let.a-is c.in-Let.b-is)

pub expr-returns-in-Case : goal.expr-returns-in-Case
expr-returns-in-Case t c =
    behind_ok c.branches-branched.result c.rest.result (behind_both _ _ c.boxed-looked.result c.branches-branched.result c.boxed-looked.ensures c.branches-branched.ensures) c.rest.ensures
    (λ h r. case_is c.args.e.now _ c.in-Case.subject c.boxed-looked.new.e _ c.in-Case.branches c.branches-branched.new.branches _ c.in-Case.rest c.rest.new.rest _
    c.args.self.now c.boxed-looked.new.self c.branches-branched.new.self c.rest.new.self c.in-Case.is (first_of (search rules, search (rules, the_lemmas), search (rules, the_lemmas, c.in-Case.is)))
    c.in-Case.subject-is c.in-Case.branches-is c.in-Case.rest-is h.0 h.1 r)

pub expr-returns-in-Chain : goal.expr-returns-in-Chain
expr-returns-in-Chain t c =
    behind_ok c.boxed-begun.result c.steps.result c.boxed-begun.ensures c.steps.ensures
    (chain_is c.args.e.now _ c.in-Chain.first c.boxed-begun.new.e _ c.in-Chain.steps c.steps.new.steps _ c.args.self.now c.boxed-begun.new.self c.steps.new.self c.in-Chain.is (first_of (search rules, search (rules, the_lemmas), search (rules, the_lemmas, c.in-Chain.is)))
    c.in-Chain.first-is c.in-Chain.steps-is)

pub next-returns : goal.next-returns
next-returns t c = next_ok c.expr.result c.args.before _ c.args.e.now c.get_mut.result.now _ _ _ c.in_ok-before.was c.get_mut.ensures.value c.expr.ensures

pub head-returns : goal.head-returns
head-returns t c =
    head_is c.args.before _ c.args.head.now c.get_mut.result.now c.expr.new.e c.args.depth c.args.self.now c.expr.new.self c.leave.new.self c.in_ok-before.was c.get_mut.ensures.value
    c.in_ok-expr.ensures c.in_ok-leave.ensures

pub body-returns : goal.body-returns
body-returns t c =
    body_is c.args.before _ c.args.pattern.now c.sure.new.pattern c.args.body.now c.get_mut.result.now c.expr.new.e c.depth-depth.result c.args.self.now c.sure.new.self c.expr.new.self c.leave.new.self
    c.in_ok-before.was c.get_mut.ensures.value c.depth-depth.ensures c.in_ok-sure.ensures c.in_ok-expr.ensures c.in_ok-leave.ensures

pub qual-returns-in_ok-drawn-in-Gen : goal.qual-returns-in_ok-drawn-in-Gen
qual-returns-in_ok-drawn-in-Gen t c =
    gen_is c.args.qual.now _ c.in-Gen.pattern c.drawn.new.pattern _ c.in-Gen.e c.expr.new.e _ c.args.self.now c.expr.new.self c.drawn.new.self c.in-Gen.is (first_of (search rules, search (rules, qual_lemmas), search (rules, qual_lemmas, c.in-Gen.is)))
    c.in-Gen.pattern-is c.in-Gen.e-is c.in_ok-expr-in-Gen.ensures c.in_ok-drawn-in-Gen.ensures

pub qual-returns-in_ok-expr-in-Cond : goal.qual-returns-in_ok-expr-in-Cond
qual-returns-in_ok-expr-in-Cond t c = cond_is c.args.qual.now _ c.in-Cond.e c.expr-in-Cond.new.e _ c.args.self.now c.expr-in-Cond.new.self c.in-Cond.is (first_of (search rules, search (rules, qual_lemmas), search (rules, qual_lemmas, c.in-Cond.is))) c.in-Cond.e-is c.in_ok-expr-in-Cond.ensures
