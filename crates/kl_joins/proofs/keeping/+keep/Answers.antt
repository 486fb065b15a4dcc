use Rattle.std.proofs.Common.{get_or, Some, refl, ◌∙◌, rules, arith}
use Rattle.kl_plan.specs.declared.plan.Plan.{the_lemmas}
use Rattle.kl_plan.specs.declared.plan.Join.{the_lemmas as join_lemmas}
use Rattle.kl_plan.specs.Nodes.{view}
use Rattle.kl_joins.specs.MemosMade.{EachKept, FieldsKept}
use Rattle.kl_joins.proofs.Fronts.{unvisited_more, unvisited_item, item, whole}
use Rattle.kl_joins.proofs.Ready.{proj_ready, inj_ready, rec_ready, make_ready, prim_ready, union_ready, ext_ready, let_ready, if_ready}
use Rattle.kl_joins.proofs.Ready.{case_ready, join_ready, joined_ready, key_ready, other_ready, each_lent, field_lent}
use Rattle.kl_joins.proofs.Kept.{behind, next_made, source_made, wrapped, passed, leaf_made, proj_made, inj_made, make_made, prim_made}
use Rattle.kl_joins.proofs.Kept.{rec_made}
use Rattle.kl_joins.proofs.Kept.{union_made, let_made, ext_made, if_made, case_made, other_made, no_other, joined_made, join_passed}
use Rattle.kl_joins.proofs.Kept.{join_made, key_made, no_key_made, node_front, field_front, node_kept, field_kept, nodes_kept}
use Rattle.kl_joins.proofs.Kept.{fields_kept}
use Rattle.kl_joins.proofs.keeping.+keep.Goals as goal

pub keep_parts-keep_inside-requires : goal.keep_parts-keep_inside-requires
keep_parts-keep_inside-requires t c = (
  search (rules, the_lemmas, arith),
  (
    passed c.args.place (view c.args.plan.now) c.is_kept.result c.is_kept.ensures c.if-is_kept.false,
    c.requires.ready,
  ),
)

pub keep_parts-returns-then-is_kept : goal.keep_parts-returns-then-is_kept
keep_parts-returns-then-is_kept t c =
    wrapped c.args.place c.args.depth (view c.args.plan.now) _ c.is_kept.result c.wrap.result c.is_kept.ensures c.if-is_kept.true
    c.wrap.ensures

pub keep_inside-returns-in-Plain : goal.keep_inside-returns-in-Plain
keep_inside-returns-in-Plain t c =
    leaf_made c.args.place c.args.depth c.args.plan.now c.requires.ready c.requires.passed c.in-Plain.is

pub keep_inside-returns-in-Plain-2 : goal.keep_inside-returns-in-Plain-2
keep_inside-returns-in-Plain-2 t c =
    leaf_made c.args.place c.args.depth c.args.plan.now c.requires.ready c.requires.passed c.in-Plain.is

pub keep_inside-returns-in-Plain-3 : goal.keep_inside-returns-in-Plain-3
keep_inside-returns-in-Plain-3 t c =
    leaf_made c.args.place c.args.depth c.args.plan.now c.requires.ready c.requires.passed c.in-Plain.is

pub keep_inside-returns-in-Plain-4 : goal.keep_inside-returns-in-Plain-4
keep_inside-returns-in-Plain-4 t c =
    leaf_made c.args.place c.args.depth c.args.plan.now c.requires.ready c.requires.passed c.in-Plain.is

pub keep_inside-keep_labelled-requires : goal.keep_inside-keep_labelled-requires
keep_inside-keep_labelled-requires t c = (
  search (rules, the_lemmas, arith),
  rec_ready c.args.depth c.args.plan.now c.in-Rec.fields _ c.in-Rec.is c.in-Rec.fields-is
      c.requires.ready,
)

pub keep_inside-returns-in-Rec : goal.keep_inside-returns-in-Rec
keep_inside-returns-in-Rec t c =
    rec_made c.args.place c.args.depth c.args.plan.now _ c.in-Rec.fields _ c.keep_labelled.new.parts c.aside-beside.result
    c.keep_labelled.result c.in-Rec.is (first_of (search rules, search (rules, the_lemmas), search (rules, the_lemmas, c.in-Rec.is)))
    c.in-Rec.fields-is c.aside-beside.ensures c.keep_labelled.ensures

pub keep_inside-keep_part-requires : goal.keep_inside-keep_part-requires
keep_inside-keep_part-requires t c = (
  search (rules, the_lemmas, arith),
  proj_ready c.args.depth c.args.plan.now c.in-Proj.field-0 c.in-Proj.a _ c.in-Proj.is
      c.in-Proj.a-is c.requires.ready,
)

pub keep_inside-returns-in-Proj : goal.keep_inside-returns-in-Proj
keep_inside-returns-in-Proj t c =
    proj_made c.args.place c.args.depth c.args.plan.now _ c.in-Proj.field-0 c.in-Proj.a _ c.keep_part.new.part c.aside-beside.result
    c.keep_part.result c.in-Proj.is (first_of (search rules, search (rules, the_lemmas), search (rules, the_lemmas, c.in-Proj.is)))
    c.in-Proj.a-is c.aside-beside.ensures c.keep_part.ensures

pub keep_inside-keep_part-requires-in-Inj : goal.keep_inside-keep_part-requires-in-Inj
keep_inside-keep_part-requires-in-Inj t c = (
  search (rules, the_lemmas, arith),
  inj_ready c.args.depth c.args.plan.now c.in-Inj.field-0 c.in-Inj.a _ c.in-Inj.is c.in-Inj.a-is
      c.requires.ready,
)

pub keep_inside-returns-in-Inj : goal.keep_inside-returns-in-Inj
keep_inside-returns-in-Inj t c =
    inj_made c.args.place c.args.depth c.args.plan.now _ c.in-Inj.field-0 c.in-Inj.a _ c.keep_part-in-Inj.new.part c.aside-beside.result
    c.keep_part-in-Inj.result c.in-Inj.is (first_of (
      search rules,
      search (rules, the_lemmas),
      search
          (rules, the_lemmas, c.in-Inj.is),
    )) c.in-Inj.a-is c.aside-beside.ensures c.keep_part-in-Inj.ensures

pub keep_several-keep_part-subject-requires : goal.keep_several-keep_part-subject-requires
keep_several-keep_part-subject-requires t c = (
  search (rules, the_lemmas, arith),
  (case_ready c.args.depth c.args.plan.now c.in-Case.a _ c.in-Case.branches _ c.in-Case.other _
      c.in-Case.is c.in-Case.a-is c.in-Case.branches-is c.in-Case.other-is c.requires.ready).0,
)

pub keep_several-keep_labelled-branch-requires : goal.keep_several-keep_labelled-branch-requires
keep_several-keep_labelled-branch-requires t c = (
  search (rules, the_lemmas, arith),
  (case_ready c.args.depth c.args.plan.now c.in-Case.a _ c.in-Case.branches _ c.in-Case.other _
      c.in-Case.is c.in-Case.a-is c.in-Case.branches-is c.in-Case.other-is c.requires.ready).1,
)

pub keep_several-keep_other-requires : goal.keep_several-keep_other-requires
keep_several-keep_other-requires t c = (
  search (rules, the_lemmas, arith),
  (case_ready c.args.depth c.args.plan.now c.in-Case.a _ c.in-Case.branches _ c.in-Case.other _
      c.in-Case.is c.in-Case.a-is c.in-Case.branches-is c.in-Case.other-is c.requires.ready).2,
)

pub keep_several-returns-in-Case : goal.keep_several-returns-in-Case
keep_several-returns-in-Case t c =
    case_made c.args.place c.args.depth c.args.plan.now _ c.in-Case.a _ c.keep_part-subject.new.part c.in-Case.branches _
    c.keep_labelled-branch.new.parts c.in-Case.other _ c.keep_other.new.other c.aside-beside.result
    c.keep_part-subject.result c.keep_labelled-branch.result c.keep_other.result c.in-Case.is
    (first_of (search rules, search (rules, the_lemmas), search (rules, the_lemmas, c.in-Case.is)))
    c.in-Case.a-is c.in-Case.branches-is c.in-Case.other-is c.aside-beside.ensures c.keep_part-subject.ensures
    c.keep_labelled-branch.ensures c.keep_other.ensures

pub keep_inside-keep_all-requires : goal.keep_inside-keep_all-requires
keep_inside-keep_all-requires t c = (
  search (rules, the_lemmas, arith),
  make_ready c.args.depth c.args.plan.now c.in-Make.field-0 c.in-Make.plans _ c.in-Make.is
      c.in-Make.plans-is c.requires.ready,
)

pub keep_inside-returns-in-Make : goal.keep_inside-returns-in-Make
keep_inside-returns-in-Make t c =
    make_made c.args.place c.args.depth c.args.plan.now _ c.in-Make.field-0 c.in-Make.plans _ c.keep_all.new.plans c.aside-beside.result
    c.keep_all.result c.in-Make.is (first_of (search rules, search (rules, the_lemmas), search (rules, the_lemmas, c.in-Make.is)))
    c.in-Make.plans-is c.aside-beside.ensures c.keep_all.ensures

pub keep_inside-keep_all-requires-in-Prim : goal.keep_inside-keep_all-requires-in-Prim
keep_inside-keep_all-requires-in-Prim t c = (
  search (rules, the_lemmas, arith),
  prim_ready c.args.depth c.args.plan.now c.in-Prim.field-0 c.in-Prim.plans _ c.in-Prim.is
      c.in-Prim.plans-is c.requires.ready,
)

pub keep_inside-returns-in-Prim : goal.keep_inside-returns-in-Prim
keep_inside-returns-in-Prim t c =
    prim_made c.args.place c.args.depth c.args.plan.now _ c.in-Prim.field-0 c.in-Prim.plans _ c.keep_all-in-Prim.new.plans
    c.aside-beside.result c.keep_all-in-Prim.result c.in-Prim.is
    (first_of (search rules, search (rules, the_lemmas), search (rules, the_lemmas, c.in-Prim.is))) c.in-Prim.plans-is
    c.aside-beside.ensures c.keep_all-in-Prim.ensures

pub keep_several-keep_part-first-requires : goal.keep_several-keep_part-first-requires
keep_several-keep_part-first-requires t c = (
  search (rules, the_lemmas, arith),
  (union_ready c.args.depth c.args.plan.now c.in-Union.a c.in-Union.b _ _ c.in-Union.is
      c.in-Union.a-is c.in-Union.b-is c.requires.ready).0,
)

pub keep_several-keep_next-requires : goal.keep_several-keep_next-requires
keep_several-keep_next-requires t c = (
  search (rules, the_lemmas, arith),
  (union_ready c.args.depth c.args.plan.now c.in-Union.a c.in-Union.b _ _ c.in-Union.is
      c.in-Union.a-is c.in-Union.b-is c.requires.ready).1,
)

pub keep_several-returns-in-Union : goal.keep_several-returns-in-Union
keep_several-returns-in-Union t c =
    union_made c.args.place c.args.depth c.args.plan.now _ c.in-Union.a c.in-Union.b _ _ c.keep_part-first.new.part c.keep_next.new.part
    c.keep_part-first.result c.keep_next.result c.in-Union.is
    (first_of (search rules, search (rules, the_lemmas), search (rules, the_lemmas, c.in-Union.is))) c.in-Union.a-is c.in-Union.b-is
    c.keep_part-first.ensures c.keep_next.ensures

pub keep_several-keep_source-drawn-requires : goal.keep_several-keep_source-drawn-requires
keep_several-keep_source-drawn-requires t c = (
  search (rules, the_lemmas, arith),
  (ext_ready c.args.depth c.args.plan.now c.in-Ext.field-0 c.in-Ext.body c.in-Ext.source _ _
      c.in-Ext.is c.in-Ext.body-is c.in-Ext.source-is c.requires.ready).1,
)

pub keep_several-keep_next-requires-in-Ext : goal.keep_several-keep_next-requires-in-Ext
keep_several-keep_next-requires-in-Ext t c = (
  search (rules, the_lemmas, arith),
  (ext_ready c.args.depth c.args.plan.now c.in-Ext.field-0 c.in-Ext.body c.in-Ext.source _ _
      c.in-Ext.is c.in-Ext.body-is c.in-Ext.source-is c.requires.ready).0,
)

pub keep_several-returns-in-Ext : goal.keep_several-returns-in-Ext
keep_several-returns-in-Ext t c =
    ext_made c.args.place c.args.depth c.args.plan.now _ c.in-Ext.field-0 c.in-Ext.body c.in-Ext.source _ _ c.keep_next-in-Ext.new.part
    c.keep_source-drawn.new.source c.keep_source-drawn.result c.keep_next-in-Ext.result c.requires.passed c.in-Ext.is
    (first_of (search rules, search (rules, the_lemmas), search (rules, the_lemmas, c.in-Ext.is)))
    c.in-Ext.body-is c.in-Ext.source-is c.keep_source-drawn.ensures c.keep_next-in-Ext.ensures

pub keep_several-keep_part-tested-requires : goal.keep_several-keep_part-tested-requires
keep_several-keep_part-tested-requires t c = (
  search (rules, the_lemmas, arith),
  (if_ready c.args.depth c.args.plan.now c.in-If.a c.in-If.b c.in-If.c _ _ _ c.in-If.is c.in-If.a-is
      c.in-If.b-is c.in-If.c-is c.requires.ready).0,
)

pub keep_several-keep_next-chosen-requires : goal.keep_several-keep_next-chosen-requires
keep_several-keep_next-chosen-requires t c = (
  search (rules, the_lemmas, arith),
  (if_ready c.args.depth c.args.plan.now c.in-If.a c.in-If.b c.in-If.c _ _ _ c.in-If.is c.in-If.a-is
      c.in-If.b-is c.in-If.c-is c.requires.ready).1,
)

pub keep_several-keep_next-requires-in-If : goal.keep_several-keep_next-requires-in-If
keep_several-keep_next-requires-in-If t c = (
  search (rules, the_lemmas, arith),
  (if_ready c.args.depth c.args.plan.now c.in-If.a c.in-If.b c.in-If.c _ _ _ c.in-If.is c.in-If.a-is
      c.in-If.b-is c.in-If.c-is c.requires.ready).2,
)

pub keep_several-returns-in-If : goal.keep_several-returns-in-If
keep_several-returns-in-If t c =
    if_made c.args.place c.args.depth c.args.plan.now _ c.in-If.a c.in-If.b c.in-If.c _ _ _ c.keep_part-tested.new.part
    c.keep_next-chosen.new.part c.keep_next-in-If.new.part c.aside-beside.result
    c.keep_part-tested.result c.keep_next-chosen.result c.keep_next-in-If.result c.in-If.is
    (first_of (search rules, search (rules, the_lemmas), search (rules, the_lemmas, c.in-If.is)))
    c.in-If.a-is c.in-If.b-is c.in-If.c-is c.aside-beside.ensures c.keep_part-tested.ensures c.keep_next-chosen.ensures
    c.keep_next-in-If.ensures

pub keep_several-keep_part-bound-requires : goal.keep_several-keep_part-bound-requires
keep_several-keep_part-bound-requires t c = (
  search (rules, the_lemmas, arith),
  (let_ready c.args.depth c.args.plan.now c.in-Let.a c.in-Let.b _ _ c.in-Let.is c.in-Let.a-is
      c.in-Let.b-is c.requires.ready).0,
)

pub keep_several-keep_next-requires-in-Let : goal.keep_several-keep_next-requires-in-Let
keep_several-keep_next-requires-in-Let t c = (
  search (rules, the_lemmas, arith),
  (let_ready c.args.depth c.args.plan.now c.in-Let.a c.in-Let.b _ _ c.in-Let.is c.in-Let.a-is
      c.in-Let.b-is c.requires.ready).1,
)

pub keep_several-returns-in-Let : goal.keep_several-returns-in-Let
keep_several-returns-in-Let t c =
    let_made c.args.place c.args.depth c.args.plan.now _ c.in-Let.a c.in-Let.b _ _ c.keep_part-bound.new.part c.keep_next-in-Let.new.part
    c.aside-beside.result c.keep_part-bound.result c.keep_next-in-Let.result c.in-Let.is
    (first_of (search rules, search (rules, the_lemmas), search (rules, the_lemmas, c.in-Let.is))) c.in-Let.a-is c.in-Let.b-is
    c.aside-beside.ensures c.keep_part-bound.ensures c.keep_next-in-Let.ensures

pub keep_inside-keep_join-requires : goal.keep_inside-keep_join-requires
keep_inside-keep_join-requires t c = (
  search (rules, the_lemmas, arith),
  (
    join_passed c.args.place c.args.plan.now c.in-Join.join _ c.in-Join.is
        (c.get_mut.ensures.value ∙ c.in-Join.join-is) c.requires.passed,
    join_ready c.args.depth c.args.plan.now c.in-Join.join _
        c.in-Join.is (c.get_mut.ensures.value ∙ c.in-Join.join-is) c.requires.ready,
  ),
)

pub keep_inside-returns-in-Join : goal.keep_inside-returns-in-Join
keep_inside-returns-in-Join t c =
    joined_made c.args.place c.args.depth c.args.plan.now _ c.in-Join.join _ c.keep_join.new.join c.keep_join.result c.in-Join.is
    (first_of (search rules, search (rules, the_lemmas), search (rules, the_lemmas, c.in-Join.is)))
    (c.get_mut.ensures.value ∙ c.in-Join.join-is) c.keep_join.ensures

pub keep_next-returns : goal.keep_next-returns
keep_next-returns t c =
    next_made c.args.place c.args.depth c.args.before c.keep_parts.result _ c.get_mut.result.now c.args.part.now _
    c.in_ok-before.was c.get_mut.ensures.value c.keep_parts.ensures

pub keep_other-keep_parts-requires : goal.keep_other-keep_parts-requires
keep_other-keep_parts-requires t c = (
  search (rules, the_lemmas, arith),
  other_ready c.args.depth c.args.other.now c.in-Some.part _ c.in-Some.is
      (c.get_mut.ensures.value ∙ c.in-Some.part-is) c.requires.ready,
)

pub keep_other-returns-in-Some : goal.keep_other-returns-in-Some
keep_other-returns-in-Some t c =
    other_made c.args.place c.args.depth c.args.before c.keep_parts.result _ c.args.other.now (Some c.keep_parts.new.plan) c.in-Some.part
    _ c.keep_parts.new.plan
    c.in_ok-before.was c.in-Some.is refl (c.get_mut.ensures.value ∙ c.in-Some.part-is) c.keep_parts.ensures

pub keep_other-returns-in-None : goal.keep_other-returns-in-None
keep_other-returns-in-None t c =
    no_other c.args.place c.args.depth c.args.before _ c.args.other.now c.args.other.now c.in_ok-before.was c.in-None.is c.in-None.is

pub keep_labelled-parts-init : goal.keep_labelled-parts-init
keep_labelled-parts-init t c =
    record { unvisited = (refl, λ k d l. refl); kept = λ p q r. r }

pub keep_labelled-keep_parts-requires : goal.keep_labelled-keep_parts-requires
keep_labelled-keep_parts-requires t c = (
  search (rules, the_lemmas, arith),
  field_lent c.args.depth c.args.parts.now c.slice_mut-parts.result.now c.parts.parts c.parts.i
      c.index-parts-i.result c.slice_mut-parts.ensures.value c.parts-test.true c.parts.invariant.unvisited c.requires.ready,
)

pub keep_labelled-parts-preserved : goal.keep_labelled-parts-preserved
keep_labelled-parts-preserved t c =
    record {
      unvisited = unvisited_more c.slice_mut-parts.result.now c.parts.parts c.parts.i _ c.parts.invariant.unvisited;
      kept =
          let x = get_or c.parts.parts c.parts.i c.index-parts-i.result in
          item field_front (FieldsKept c.args.place c.args.depth) c.slice_mut-parts.result.now c.parts.parts c.parts.i x
          (x.0, c.keep_parts.new.plan) c.parts-test.true c.parts.auto.parts
          (unvisited_item c.slice_mut-parts.result.now c.parts.parts c.parts.i c.index-parts-i.result c.parts-test.true
          c.parts.invariant.unvisited) c.parts.invariant.kept
          (field_kept c.args.place c.args.depth x c.keep_parts.new.plan c.in_ok-keep_parts.ensures);
    }

pub keep_labelled-returns : goal.keep_labelled-returns
keep_labelled-returns t c =
    behind _ _ c.in_ok-before.was (fields_kept c.args.place c.args.depth c.args.parts.now _
    (whole field_front (FieldsKept c.args.place c.args.depth) c.args.parts.now c.slice_mut-parts.result.now c.parts.parts c.parts.i
    c.slice_mut-parts.ensures.value c.parts-test.false c.parts.auto.parts c.parts.invariant.kept))

pub keep_all-plans-init : goal.keep_all-plans-init
keep_all-plans-init t c =
    record { unvisited = (refl, λ k d l. refl); kept = λ p q r. r }

pub keep_all-keep_parts-requires : goal.keep_all-keep_parts-requires
keep_all-keep_parts-requires t c = (
  search (rules, the_lemmas, arith),
  each_lent c.args.depth c.args.plans.now c.slice_mut-plans.result.now c.plans.plans c.plans.i
      c.index-plans-i.result c.slice_mut-plans.ensures.value c.plans-test.true c.plans.invariant.unvisited c.requires.ready,
)

pub keep_all-plans-preserved : goal.keep_all-plans-preserved
keep_all-plans-preserved t c =
    record {
      unvisited = unvisited_more c.slice_mut-plans.result.now c.plans.plans c.plans.i _ c.plans.invariant.unvisited;
      kept =
          let x = get_or c.plans.plans c.plans.i c.index-plans-i.result in
          item node_front (EachKept c.args.place c.args.depth) c.slice_mut-plans.result.now c.plans.plans c.plans.i x
          c.keep_parts.new.plan c.plans-test.true c.plans.auto.plans
          (unvisited_item c.slice_mut-plans.result.now c.plans.plans c.plans.i c.index-plans-i.result c.plans-test.true
          c.plans.invariant.unvisited) c.plans.invariant.kept
          (node_kept c.args.place c.args.depth x c.keep_parts.new.plan c.in_ok-keep_parts.ensures);
    }

pub keep_all-returns : goal.keep_all-returns
keep_all-returns t c =
    nodes_kept c.args.place c.args.depth c.args.plans.now _
    (whole node_front (EachKept c.args.place c.args.depth) c.args.plans.now c.slice_mut-plans.result.now c.plans.plans c.plans.i
    c.slice_mut-plans.ensures.value c.plans-test.false c.plans.auto.plans c.plans.invariant.kept)

pub keep_source-returns : goal.keep_source-returns
keep_source-returns t c =
    source_made c.args.place c.at_source-at.result c.args.depth c.keep_parts.result c.get.result.now c.get_mut.result.now
    c.args.source.now _
    c.at_source-at.ensures c.get.ensures c.get_mut.ensures.value c.keep_parts.ensures

pub keep_join-keep_parts-requires : goal.keep_join-keep_parts-requires
keep_join-keep_parts-requires t c = (
  first_of (search rules, search (rules, the_lemmas, arith), search (rules, join_lemmas, arith)),
  (joined_ready c.args.depth c.args.join.now c.requires.ready).0,
)

pub keep_join-keep_all-requires : goal.keep_join-keep_all-requires
keep_join-keep_all-requires t c = (
  first_of (search rules, search (rules, the_lemmas, arith), search (rules, join_lemmas, arith)),
  (joined_ready c.args.depth c.args.join.now c.requires.ready).1,
)

pub keep_join-keep_key-requires : goal.keep_join-keep_key-requires
keep_join-keep_key-requires t c = (
  first_of (search rules, search (rules, the_lemmas, arith), search (rules, join_lemmas, arith)),
  (joined_ready c.args.depth c.args.join.now c.requires.ready).2,
)

pub keep_join-keep_parts-requires-2 : goal.keep_join-keep_parts-requires-2
keep_join-keep_parts-requires-2 t c = (
  first_of (search rules, search (rules, the_lemmas, arith), search (rules, join_lemmas, arith)),
  (joined_ready c.args.depth c.args.join.now c.requires.ready).3,
)

pub keep_join-returns : goal.keep_join-returns
keep_join-returns t c =
    join_made c.args.place c.aside.result c.args.depth c.args.join.now _ c.keep_parts.new.plan c.keep_parts-2.new.plan
    c.keep_all.new.plans c.keep_key.new.key c.keep_parts-2.result
    (search (rules, join_lemmas)) c.requires.passed c.aside.ensures c.in_ok-keep_parts.ensures c.in_ok-keep_all.ensures
    c.in_ok-keep_key.ensures c.keep_parts-2.ensures

pub keep_key-keep_parts-requires : goal.keep_key-keep_parts-requires
keep_key-keep_parts-requires t c = (
  first_of (search rules, search (rules, the_lemmas, arith), search (rules, join_lemmas, arith)),
  key_ready c.args.depth c.args.key.now
      c.in-Some.key _ c.in-Some.is c.in-Some.key-is c.requires.ready,
)

pub keep_key-returns-in-Some : goal.keep_key-returns-in-Some
keep_key-returns-in-Some t c =
    key_made c.args.depth c.args.key.now c.in-Some.key _ c.keep_parts.new.plan c.keep_parts.result c.in-Some.is c.in-Some.key-is
    c.keep_parts.ensures

pub keep_key-returns-in-None : goal.keep_key-returns-in-None
keep_key-returns-in-None t c =
    no_key_made c.args.depth c.args.key.now c.args.key.now c.in-None.is c.in-None.is
