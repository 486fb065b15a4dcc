use Rattle.std.proofs.Common.{◌+◌, get_or, refl, rules, arith}
use Rattle.kl_plan.specs.declared.plan.Plan.{the_lemmas}
use Rattle.kl_joins.proofs.Lowerings.{Lowers, LowersUnder, all_lowered, labelled_lowered, case_lowered, rec_lowered, union_lowered, ext_lowered, if_lowered, let_lowered}
use Rattle.kl_joins.proofs.Fronts.{unvisited_more, unvisited_item}
use Rattle.kl_joins.proofs.Pairing.{item_paired, list_paired}
use Rattle.kl_joins.proofs.lowering.+lower.Goals as goal

pub lower_all-plans-preserved : goal.lower_all-plans-preserved
lower_all-plans-preserved t c = record {
  unvisited = unvisited_more c.slice_mut-plans.result.now c.plans.plans c.plans.i _ c.plans.invariant.unvisited;
  walked = λ n e.
      let x = get_or c.plans.plans c.plans.i c.index-plans-i.result in
      item_paired (Lowers n) c.slice_mut-plans.result.now c.plans.plans c.plans.i x c.lower.new.plan c.plans-test.true c.plans.auto.plans
      (unvisited_item c.slice_mut-plans.result.now c.plans.plans c.plans.i c.index-plans-i.result c.plans-test.true c.plans.invariant.unvisited) (c.plans.invariant.walked n e) (c.lower.ensures n e);
}

pub lower_all-returns : goal.lower_all-returns
lower_all-returns t c n e =
    all_lowered n c.args.plans.now _ (list_paired (Lowers n) c.args.plans.now c.slice_mut-plans.result.now c.plans.plans c.plans.i c.slice_mut-plans.ensures.value c.plans-test.false c.plans.auto.plans (c.plans.invariant.walked n e))

pub lower_labelled-parts-preserved : goal.lower_labelled-parts-preserved
lower_labelled-parts-preserved t c = record {
  unvisited = unvisited_more c.slice_mut-parts.result.now c.parts.parts c.parts.i _ c.parts.invariant.unvisited;
  walked = λ n e.
      let x = get_or c.parts.parts c.parts.i c.index-parts-i.result in
      item_paired (LowersUnder n) c.slice_mut-parts.result.now c.parts.parts c.parts.i x (x.0, c.lower.new.plan) c.parts-test.true c.parts.auto.parts
      (unvisited_item c.slice_mut-parts.result.now c.parts.parts c.parts.i c.index-parts-i.result c.parts-test.true c.parts.invariant.unvisited) (c.parts.invariant.walked n e) (refl, c.lower.ensures n e);
}

pub lower_labelled-returns : goal.lower_labelled-returns
lower_labelled-returns t c n e =
    labelled_lowered n c.args.parts.now _ (list_paired (LowersUnder n) c.args.parts.now c.slice_mut-parts.result.now c.parts.parts c.parts.i c.slice_mut-parts.ensures.value c.parts-test.false c.parts.auto.parts (c.parts.invariant.walked n e))

pub lower-returns-in-Rec : goal.lower-returns-in-Rec
lower-returns-in-Rec t c n e = rec_lowered n c.args.plan.now _ c.in-Rec.fields c.lower_labelled.new.parts _ c.in-Rec.is (first_of (search rules, search (rules, the_lemmas), search (rules, the_lemmas, c.in-Rec.is))) c.in-Rec.fields-is (c.lower_labelled.ensures n e)

pub lower-returns-in-Case : goal.lower-returns-in-Case
lower-returns-in-Case t c n e = case_lowered n c.args.plan.now _ c.in-Case.a _ c.lower_box-in-Case.new.part c.in-Case.branches _ c.lower_labelled-in-Case.new.parts c.in-Case.other _ c.lower_other.new.other c.in-Case.is (first_of (search rules, search (rules, the_lemmas), search (rules, the_lemmas, c.in-Case.is))) c.in-Case.a-is c.in-Case.branches-is c.in-Case.other-is (c.lower_box-in-Case.ensures n e) (c.lower_labelled-in-Case.ensures (n + 1) (omega arith)) (c.lower_other.ensures n e)

pub lower-returns-in-Union : goal.lower-returns-in-Union
lower-returns-in-Union t c n e = union_lowered n c.args.plan.now _ c.in-Union.a c.in-Union.b c.lower_box-in-Union.new.part c.lower_box-in-Union-2.new.part _ _ c.in-Union.is (first_of (search rules, search (rules, the_lemmas), search (rules, the_lemmas, c.in-Union.is))) c.in-Union.a-is c.in-Union.b-is (c.lower_box-in-Union.ensures n e) (c.lower_box-in-Union-2.ensures n e)

pub lower-returns-in-Ext : goal.lower-returns-in-Ext
lower-returns-in-Ext t c n e = ext_lowered n c.in-Ext.field-0 c.args.plan.now _ c.in-Ext.body c.in-Ext.source c.lower_under.new.part c.lower_box-in-Ext.new.part _ _ c.in-Ext.is (first_of (search rules, search (rules, the_lemmas), search (rules, the_lemmas, c.in-Ext.is))) c.in-Ext.body-is c.in-Ext.source-is (c.lower_under.ensures n e) (c.lower_box-in-Ext.ensures n e)

pub lower-returns-in-If : goal.lower-returns-in-If
lower-returns-in-If t c n e = if_lowered n c.args.plan.now _ c.in-If.a c.in-If.b c.in-If.c c.lower_box-in-If.new.part c.lower_box-in-If-2.new.part c.lower_box-in-If-3.new.part _ _ _ c.in-If.is (first_of (search rules, search (rules, the_lemmas), search (rules, the_lemmas, c.in-If.is))) c.in-If.a-is c.in-If.b-is c.in-If.c-is (c.lower_box-in-If.ensures n e) (c.lower_box-in-If-2.ensures n e) (c.lower_box-in-If-3.ensures n e)

pub lower-returns-in-Let : goal.lower-returns-in-Let
lower-returns-in-Let t c n e = let_lowered n c.args.plan.now _ c.in-Let.a c.in-Let.b c.lower_box-in-Let.new.part c.lower_under-in-Let.new.part _ _ c.in-Let.is (first_of (search rules, search (rules, the_lemmas), search (rules, the_lemmas, c.in-Let.is))) c.in-Let.a-is c.in-Let.b-is (c.lower_box-in-Let.ensures n e) (c.lower_under-in-Let.ensures n e)
