use Rattle.std.proofs.Common.{◌+◌, refl, ap, ◌∙◌, rules, arith}
use Rattle.kl_plan.specs.declared.plan.Plan.{the_lemmas}
use Rattle.kl_plan.specs.Nodes.{Rec, Proj, Inj, Make, Union, Let, Prim, view, nodes_view, fields_view}
use Rattle.kl_plan.proofs.Views.{view_Rec, view_Proj, view_Inj, view_Make, view_Union, view_Ext, view_Let, view_Prim}
use Rattle.kl_joins.specs.Numbered.{SamePlan, SameNodes, SameFields}
use Rattle.kl_joins.specs.Numbering.{in_plan, in_nodes, in_fields}
use Rattle.kl_joins.proofs.NumberedForms.{has_several, has_choice, not_choice, plain_numbered, var_numbered, one_Rec, one_Proj, one_Inj}
use Rattle.kl_joins.proofs.NumberedForms.{one_Make}
use Rattle.kl_joins.proofs.NumberedForms.{one_Prim}
use Rattle.kl_joins.proofs.NumberedForms.{one_room}
use Rattle.kl_joins.proofs.NumberedForms.{one_numbered}
use Rattle.kl_joins.proofs.NumberedForms.{two_Union, two_Let, two_Ext, ext_of, two_room, two_next, two_numbered}
use Rattle.kl_joins.proofs.NumberedForms.{if_room, if_next, if_last, if_numbered, case_room, case_branches, case_other, case_numbered}
use Rattle.kl_joins.proofs.NumberedForms.{scan_room}
use Rattle.kl_joins.proofs.NumberedForms.{scan_numbered, join_room, join_ok, join_given, join_back, memo_room, memo_numbered, memo_given}
use Rattle.kl_joins.proofs.NumberedForms.{memo_part}
use Rattle.kl_joins.proofs.NumberedForms.{boxed_room, boxed_numbered, join_take, join_outer, join_conds, join_key, join_scan, join_body}
use Rattle.kl_joins.proofs.NumberedForms.{join_numbered, key_room, key_numbered, no_key_numbered, other_room, other_numbered}
use Rattle.kl_joins.proofs.NumberedForms.{no_other_numbered}
use Rattle.kl_joins.proofs.NumberedLists.{plans_room, plans_more, plans_numbered, parts_room, parts_more, parts_numbered, unvisited_more}
use Rattle.kl_joins.proofs.numbering.+numbered.Goals as goal

pub number_plan-returns-in-Plain : goal.number_plan-returns-in-Plain
number_plan-returns-in-Plain t c =
    plain_numbered c.args.numbers.now c.args.plan.now c.in-Plain.field-0 c.in-Plain.is

pub number_plan-returns-in-Var : goal.number_plan-returns-in-Var
number_plan-returns-in-Var t c =
    var_numbered c.args.numbers.now c.args.plan.now c.in-Var.field-0 c.in-Var.is

pub number_plan-number_labelled-requires : goal.number_plan-number_labelled-requires
number_plan-number_labelled-requires t c = (
  search (rules, the_lemmas, arith),
  one_room fields_view SameFields in_fields Rec one_Rec c.args.numbers.now c.args.plan.now
      c.in-Rec.fields _ (ap view c.in-Rec.is ∙ view_Rec c.in-Rec.fields) c.in-Rec.fields-is c.requires,
)

pub number_plan-returns-in-Rec : goal.number_plan-returns-in-Rec
number_plan-returns-in-Rec t c =
    one_numbered fields_view SameFields in_fields Rec one_Rec c.args.numbers.now c.args.plan.now c.in-Rec.fields _
    (ap view c.in-Rec.is ∙ view_Rec c.in-Rec.fields) c.in-Rec.fields-is
    c.number_labelled.new.numbers _ c.number_labelled.new.parts
    (ap view (first_of (search rules, search (rules, the_lemmas), search (rules, the_lemmas, c.in-Rec.is)))
    ∙ view_Rec c.number_labelled.new.parts)
    c.number_labelled.ensures

pub number_plan-number_boxed-requires : goal.number_plan-number_boxed-requires
number_plan-number_boxed-requires t c = (
  search (rules, the_lemmas, arith),
  one_room view SamePlan in_plan (Proj c.in-Proj.field-0) (one_Proj c.in-Proj.field-0)
      c.args.numbers.now c.args.plan.now c.in-Proj.a _ (ap view c.in-Proj.is ∙ view_Proj c.in-Proj.field-0 c.in-Proj.a) c.in-Proj.a-is
      c.requires,
)

pub number_plan-returns-in-Proj : goal.number_plan-returns-in-Proj
number_plan-returns-in-Proj t c =
    one_numbered view SamePlan in_plan (Proj c.in-Proj.field-0) (one_Proj c.in-Proj.field-0) c.args.numbers.now c.args.plan.now c.in-Proj.a
    _ (ap view c.in-Proj.is ∙ view_Proj c.in-Proj.field-0 c.in-Proj.a) c.in-Proj.a-is
    c.number_boxed.new.numbers _ c.number_boxed.new.plan
    (ap view (first_of (search rules, search (rules, the_lemmas), search (rules, the_lemmas, c.in-Proj.is)))
    ∙ view_Proj c.in-Proj.field-0 c.number_boxed.new.plan) c.number_boxed.ensures

pub number_plan-number_boxed-requires-in-Inj : goal.number_plan-number_boxed-requires-in-Inj
number_plan-number_boxed-requires-in-Inj t c = (
  search (rules, the_lemmas, arith),
  one_room view SamePlan in_plan (Inj c.in-Inj.field-0) (one_Inj c.in-Inj.field-0) c.args.numbers.now
      c.args.plan.now c.in-Inj.a _ (ap view c.in-Inj.is ∙ view_Inj c.in-Inj.field-0 c.in-Inj.a) c.in-Inj.a-is c.requires,
)

pub number_plan-returns-in-Inj : goal.number_plan-returns-in-Inj
number_plan-returns-in-Inj t c =
    one_numbered view SamePlan in_plan (Inj c.in-Inj.field-0) (one_Inj c.in-Inj.field-0) c.args.numbers.now c.args.plan.now c.in-Inj.a _
    (ap view c.in-Inj.is ∙ view_Inj c.in-Inj.field-0 c.in-Inj.a) c.in-Inj.a-is
    c.number_boxed-in-Inj.new.numbers _ c.number_boxed-in-Inj.new.plan
    (ap view (first_of (search rules, search (rules, the_lemmas), search (rules, the_lemmas, c.in-Inj.is)))
    ∙ view_Inj c.in-Inj.field-0 c.number_boxed-in-Inj.new.plan) c.number_boxed-in-Inj.ensures

pub number_plan-number_all-requires : goal.number_plan-number_all-requires
number_plan-number_all-requires t c = (
  search (rules, the_lemmas, arith),
  one_room nodes_view SameNodes in_nodes (Make c.in-Make.field-0) (one_Make c.in-Make.field-0)
      c.args.numbers.now c.args.plan.now c.in-Make.plans _ (ap view c.in-Make.is ∙ view_Make c.in-Make.field-0 c.in-Make.plans)
      c.in-Make.plans-is c.requires,
)

pub number_plan-returns-in-Make : goal.number_plan-returns-in-Make
number_plan-returns-in-Make t c =
    one_numbered nodes_view SameNodes in_nodes (Make c.in-Make.field-0) (one_Make c.in-Make.field-0) c.args.numbers.now c.args.plan.now
    c.in-Make.plans _ (ap view c.in-Make.is ∙ view_Make c.in-Make.field-0 c.in-Make.plans) c.in-Make.plans-is
    c.number_all.new.numbers _ c.number_all.new.plans
    (ap view (first_of (search rules, search (rules, the_lemmas), search (rules, the_lemmas, c.in-Make.is)))
    ∙ view_Make c.in-Make.field-0 c.number_all.new.plans) c.number_all.ensures

pub number_plan-number_all-requires-in-Prim : goal.number_plan-number_all-requires-in-Prim
number_plan-number_all-requires-in-Prim t c = (
  search (rules, the_lemmas, arith),
  one_room nodes_view SameNodes in_nodes (Prim c.in-Prim.field-0) (one_Prim c.in-Prim.field-0)
      c.args.numbers.now c.args.plan.now c.in-Prim.plans _ (ap view c.in-Prim.is ∙ view_Prim c.in-Prim.field-0 c.in-Prim.plans)
      c.in-Prim.plans-is c.requires,
)

pub number_plan-returns-in-Prim : goal.number_plan-returns-in-Prim
number_plan-returns-in-Prim t c =
    one_numbered nodes_view SameNodes in_nodes (Prim c.in-Prim.field-0) (one_Prim c.in-Prim.field-0) c.args.numbers.now c.args.plan.now
    c.in-Prim.plans _ (ap view c.in-Prim.is ∙ view_Prim c.in-Prim.field-0 c.in-Prim.plans) c.in-Prim.plans-is
    c.number_all-in-Prim.new.numbers _ c.number_all-in-Prim.new.plans
    (ap view (first_of (search rules, search (rules, the_lemmas), search (rules, the_lemmas, c.in-Prim.is)))
    ∙ view_Prim c.in-Prim.field-0 c.number_all-in-Prim.new.plans) c.number_all-in-Prim.ensures

pub number_several-number_boxed-requires : goal.number_several-number_boxed-requires
number_several-number_boxed-requires t c = (
  search (rules, the_lemmas, arith),
  two_room Union two_Union c.args.numbers.now c.args.plan.now c.in-Union.a c.in-Union.b _ _
      (ap view c.in-Union.is ∙ view_Union c.in-Union.a c.in-Union.b)
      c.in-Union.a-is c.in-Union.b-is c.requires.room,
)

pub number_several-number_boxed-requires-in-Union : goal.number_several-number_boxed-requires-in-Union
number_several-number_boxed-requires-in-Union t c = (
  search (rules, the_lemmas, arith),
  two_next Union two_Union c.args.numbers.now c.args.plan.now c.in-Union.a c.in-Union.b _ _
      (ap view c.in-Union.is ∙ view_Union c.in-Union.a c.in-Union.b)
      c.in-Union.a-is c.in-Union.b-is c.number_boxed.new.numbers c.number_boxed.new.plan c.requires.room
      c.number_boxed.ensures,
)

pub number_several-returns-in-Union : goal.number_several-returns-in-Union
number_several-returns-in-Union t c =
    two_numbered Union two_Union c.args.numbers.now c.args.plan.now c.in-Union.a c.in-Union.b _ _
    (ap view c.in-Union.is ∙ view_Union c.in-Union.a c.in-Union.b)
    c.in-Union.a-is c.in-Union.b-is
    c.number_boxed.new.numbers c.number_boxed-in-Union.new.numbers _ c.number_boxed.new.plan
    c.number_boxed-in-Union.new.plan
    (ap view (first_of (search rules, search (rules, the_lemmas), search (rules, the_lemmas, c.in-Union.is)))
    ∙ view_Union c.number_boxed.new.plan c.number_boxed-in-Union.new.plan)
    c.number_boxed.ensures c.number_boxed-in-Union.ensures

pub number_several-number_boxed-requires-in-Let : goal.number_several-number_boxed-requires-in-Let
number_several-number_boxed-requires-in-Let t c = (
  search (rules, the_lemmas, arith),
  two_room Let two_Let c.args.numbers.now c.args.plan.now c.in-Let.a c.in-Let.b _ _
      (ap view c.in-Let.is ∙ view_Let c.in-Let.a c.in-Let.b)
      c.in-Let.a-is c.in-Let.b-is c.requires.room,
)

pub number_several-number_boxed-requires-in-Let-2 : goal.number_several-number_boxed-requires-in-Let-2
number_several-number_boxed-requires-in-Let-2 t c = (
  search (rules, the_lemmas, arith),
  two_next Let two_Let c.args.numbers.now c.args.plan.now c.in-Let.a c.in-Let.b _ _
      (ap view c.in-Let.is ∙ view_Let c.in-Let.a c.in-Let.b)
      c.in-Let.a-is c.in-Let.b-is c.number_boxed-in-Let.new.numbers c.number_boxed-in-Let.new.plan c.requires.room
      c.number_boxed-in-Let.ensures,
)

pub number_several-returns-in-Let : goal.number_several-returns-in-Let
number_several-returns-in-Let t c =
    two_numbered Let two_Let c.args.numbers.now c.args.plan.now c.in-Let.a c.in-Let.b _ _
    (ap view c.in-Let.is ∙ view_Let c.in-Let.a c.in-Let.b)
    c.in-Let.a-is c.in-Let.b-is
    c.number_boxed-in-Let.new.numbers c.number_boxed-in-Let-2.new.numbers _ c.number_boxed-in-Let.new.plan c.number_boxed-in-Let-2.new.plan
    (ap view (first_of (search rules, search (rules, the_lemmas), search (rules, the_lemmas, c.in-Let.is)))
    ∙ view_Let c.number_boxed-in-Let.new.plan c.number_boxed-in-Let-2.new.plan)
    c.number_boxed-in-Let.ensures c.number_boxed-in-Let-2.ensures

pub number_several-number_boxed-requires-in-Ext : goal.number_several-number_boxed-requires-in-Ext
number_several-number_boxed-requires-in-Ext t c = (
  search (rules, the_lemmas, arith),
  two_room (ext_of c.in-Ext.field-0) (two_Ext c.in-Ext.field-0) c.args.numbers.now c.args.plan.now
      c.in-Ext.source c.in-Ext.body _ _ (ap view c.in-Ext.is ∙ view_Ext c.in-Ext.field-0 c.in-Ext.body c.in-Ext.source)
      c.in-Ext.source-is c.in-Ext.body-is c.requires.room,
)

pub number_several-number_boxed-requires-in-Ext-2 : goal.number_several-number_boxed-requires-in-Ext-2
number_several-number_boxed-requires-in-Ext-2 t c = (
  search (rules, the_lemmas, arith),
  two_next (ext_of c.in-Ext.field-0) (two_Ext c.in-Ext.field-0) c.args.numbers.now c.args.plan.now
      c.in-Ext.source c.in-Ext.body _ _ (ap view c.in-Ext.is ∙ view_Ext c.in-Ext.field-0 c.in-Ext.body c.in-Ext.source)
      c.in-Ext.source-is c.in-Ext.body-is c.number_boxed-in-Ext.new.numbers c.number_boxed-in-Ext.new.plan c.requires.room
      c.number_boxed-in-Ext.ensures,
)

pub number_several-returns-in-Ext : goal.number_several-returns-in-Ext
number_several-returns-in-Ext t c =
    two_numbered (ext_of c.in-Ext.field-0) (two_Ext c.in-Ext.field-0) c.args.numbers.now c.args.plan.now c.in-Ext.source c.in-Ext.body _ _
    (ap view c.in-Ext.is ∙ view_Ext c.in-Ext.field-0 c.in-Ext.body c.in-Ext.source)
    c.in-Ext.source-is c.in-Ext.body-is
    c.number_boxed-in-Ext.new.numbers c.number_boxed-in-Ext-2.new.numbers _ c.number_boxed-in-Ext.new.plan c.number_boxed-in-Ext-2.new.plan
    (ap view (first_of (search rules, search (rules, the_lemmas), search (rules, the_lemmas, c.in-Ext.is)))
    ∙ view_Ext c.in-Ext.field-0 c.number_boxed-in-Ext-2.new.plan c.number_boxed-in-Ext.new.plan)
    c.number_boxed-in-Ext.ensures c.number_boxed-in-Ext-2.ensures

pub number_choice-number_boxed-requires-in-If : goal.number_choice-number_boxed-requires-in-If
number_choice-number_boxed-requires-in-If t c = (
  search (rules, the_lemmas, arith),
  if_room c.args.numbers.now c.args.plan.now c.in-If.a c.in-If.b c.in-If.c _ _ _ c.in-If.is
      c.in-If.a-is c.in-If.b-is c.in-If.c-is c.requires.room,
)

pub number_choice-number_boxed-requires-in-If-2 : goal.number_choice-number_boxed-requires-in-If-2
number_choice-number_boxed-requires-in-If-2 t c = (
  search (rules, the_lemmas, arith),
  if_next c.args.numbers.now c.args.plan.now c.in-If.a c.in-If.b c.in-If.c _ _ _ c.in-If.is
      c.in-If.a-is c.in-If.b-is c.in-If.c-is c.number_boxed-in-If.new.numbers c.number_boxed-in-If.new.plan c.requires.room
      c.number_boxed-in-If.ensures,
)

pub number_choice-number_boxed-requires-in-If-3 : goal.number_choice-number_boxed-requires-in-If-3
number_choice-number_boxed-requires-in-If-3 t c = (
  search (rules, the_lemmas, arith),
  if_last c.args.numbers.now c.args.plan.now c.in-If.a c.in-If.b c.in-If.c _ _ _ c.in-If.is
      c.in-If.a-is c.in-If.b-is c.in-If.c-is c.number_boxed-in-If.new.numbers c.number_boxed-in-If-2.new.numbers
      c.number_boxed-in-If.new.plan
      c.number_boxed-in-If-2.new.plan c.requires.room c.number_boxed-in-If.ensures c.number_boxed-in-If-2.ensures,
)

pub number_choice-returns-in-If : goal.number_choice-returns-in-If
number_choice-returns-in-If t c =
    if_numbered c.args.numbers.now c.args.plan.now c.in-If.a c.in-If.b c.in-If.c _ _ _ c.in-If.is c.in-If.a-is c.in-If.b-is c.in-If.c-is
    c.number_boxed-in-If.new.numbers c.number_boxed-in-If-2.new.numbers c.number_boxed-in-If-3.new.numbers _ c.number_boxed-in-If.new.plan
    c.number_boxed-in-If-2.new.plan c.number_boxed-in-If-3.new.plan
    (first_of (search rules, search (rules, the_lemmas), search (rules, the_lemmas, c.in-If.is)))
    c.number_boxed-in-If.ensures c.number_boxed-in-If-2.ensures c.number_boxed-in-If-3.ensures

pub number_choice-number_boxed-requires : goal.number_choice-number_boxed-requires
number_choice-number_boxed-requires t c = (
  search (rules, the_lemmas, arith),
  case_room c.args.numbers.now c.args.plan.now c.in-Case.a _ c.in-Case.branches _ c.in-Case.other _
      c.in-Case.is c.in-Case.a-is c.in-Case.branches-is c.in-Case.other-is c.requires.room,
)

pub number_choice-number_labelled-requires : goal.number_choice-number_labelled-requires
number_choice-number_labelled-requires t c = (
  search (rules, the_lemmas, arith),
  case_branches c.args.numbers.now c.args.plan.now c.in-Case.a _ c.in-Case.branches _ c.in-Case.other
      _ c.in-Case.is c.in-Case.a-is c.in-Case.branches-is c.in-Case.other-is c.number_boxed.new.numbers
      c.number_boxed.new.plan c.requires.room c.number_boxed.ensures,
)

pub number_choice-number_other-requires : goal.number_choice-number_other-requires
number_choice-number_other-requires t c = (
  search (rules, the_lemmas, arith),
  case_other c.args.numbers.now c.args.plan.now c.in-Case.a _ c.in-Case.branches _ c.in-Case.other _
      c.in-Case.is c.in-Case.a-is c.in-Case.branches-is c.in-Case.other-is c.number_boxed.new.numbers
      c.number_labelled.new.numbers c.number_boxed.new.plan c.number_labelled.new.parts c.requires.room
      c.number_boxed.ensures c.number_labelled.ensures,
)

pub number_choice-returns-in-Case : goal.number_choice-returns-in-Case
number_choice-returns-in-Case t c =
    case_numbered c.args.numbers.now c.args.plan.now c.in-Case.a _ c.in-Case.branches _ c.in-Case.other _ c.in-Case.is c.in-Case.a-is
    c.in-Case.branches-is c.in-Case.other-is
    c.number_boxed.new.numbers c.number_labelled.new.numbers c.number_other.new.numbers _ c.number_boxed.new.plan
    c.number_labelled.new.parts c.number_other.new.other
    (first_of (search rules, search (rules, the_lemmas), search (rules, the_lemmas, c.in-Case.is)))
    c.number_boxed.ensures c.number_labelled.ensures c.number_other.ensures

pub number_plan-number_scan-requires : goal.number_plan-number_scan-requires
number_plan-number_scan-requires t c =
    scan_room c.args.numbers.now c.args.plan.now c.in-Scan.scan c.in-Scan.is c.requires

pub number_plan-returns-in-Scan : goal.number_plan-returns-in-Scan
number_plan-returns-in-Scan t c =
    scan_numbered c.args.numbers.now c.number_scan.new.numbers c.args.plan.now _ c.in-Scan.scan _ c.number_scan.new.scan c.in-Scan.is
    (first_of (search rules, search (rules, the_lemmas), search (rules, the_lemmas, c.in-Scan.is)))
    c.in-Scan.scan-is c.number_scan.ensures.same c.number_scan.ensures.number c.number_scan.ensures.numbers

pub number_plan-number_several-requires : goal.number_plan-number_several-requires
number_plan-number_several-requires t c = (
  search (rules, the_lemmas, arith),
  (
    has_several c.args.plan.now c.in_default.not-Plain c.in_default.not-Var c.in_default.not-Rec c.in_default.not-Proj c.in_default.not-Inj
        c.in_default.not-Make c.in_default.not-Prim c.in_default.not-Scan c.in_default.not-Join c.in_default.not-Memo,
    c.requires,
  ),
)

pub number_plan-returns-in_default : goal.number_plan-returns-in_default
number_plan-returns-in_default t c = c.number_several.ensures

pub number_plan-number_join-requires : goal.number_plan-number_join-requires
number_plan-number_join-requires t c = (
  search (rules, the_lemmas, arith),
  join_room c.args.numbers.now c.args.plan.now c.in-Join.join _ c.in-Join.is c.in-Join.join-is
      c.requires,
)

pub number_plan-returns-in-Join : goal.number_plan-returns-in-Join
number_plan-returns-in-Join t c =
    join_ok c.args.numbers.now c.number_join.new.numbers c.args.plan.now _ c.in-Join.join _ c.number_join.new.join c.in-Join.is
    (first_of (search rules, search (rules, the_lemmas), search (rules, the_lemmas, c.in-Join.is))) c.in-Join.join-is c.number_join.ensures

pub number_several-number_choice-requires : goal.number_several-number_choice-requires
number_several-number_choice-requires t c = (
  search (rules, the_lemmas, arith),
  (
    has_choice c.args.plan.now c.in_default.not-Union c.in_default.not-Ext c.in_default.not-Let c.requires.several,
    c.requires.room,
  ),
)

pub number_several-returns-in_default : goal.number_several-returns-in_default
number_several-returns-in_default t c = c.number_choice.ensures

pub number_choice-unreachable-requires : goal.number_choice-unreachable-requires
number_choice-unreachable-requires t c = not_choice c.args.plan.now c.in_default.not-Case c.in_default.not-If c.requires.choice

pub number_plan-number_memo-requires : goal.number_plan-number_memo-requires
number_plan-number_memo-requires t c = (
  search (rules, the_lemmas, arith),
  memo_room c.args.numbers.now c.args.plan.now c.in-Memo.part _ c.in-Memo.number c.in-Memo.field-1 c.in-Memo.is c.args.numbers.now.memos
      (c.args.numbers.now.memos + 1) c.in-Memo.part-is c.requires refl refl,
)

pub number_plan-returns-in-Memo : goal.number_plan-returns-in-Memo
number_plan-returns-in-Memo t c =
    memo_numbered c.args.numbers.now c.args.plan.now c.in-Memo.part _ c.in-Memo.number c.in-Memo.field-1 c.in-Memo.is
    c.number_memo.new.number (c.args.numbers.now.memos + 1) c.number_memo.new.numbers _ c.number_memo.new.part c.in-Memo.part-is
    (first_of (search rules, search (rules, the_lemmas), search (rules, the_lemmas, c.in-Memo.is))) c.number_memo.ensures.number refl
    c.number_memo.ensures.part

pub number_memo-take-requires : goal.number_memo-take-requires
number_memo-take-requires t c = let h = c.requires.memos in omega (arith, h)

pub number_memo-number_boxed-requires : goal.number_memo-number_boxed-requires
number_memo-number_boxed-requires t c =
    (search (rules, the_lemmas, arith), memo_given c.args.numbers.now c.take.new.next c.args.part.now c.take.ensures.next c.requires)

pub number_memo-returns : goal.number_memo-returns
number_memo-returns t c = record {
  number = c.take.ensures.number;
  part =
      memo_part c.args.numbers.now c.number_boxed.new.numbers c.take.new.next c.args.part.now c.number_boxed.new.plan c.take.ensures.next
      c.number_boxed.ensures;
}

pub number_boxed-number_plan-requires : goal.number_boxed-number_plan-requires
number_boxed-number_plan-requires t c = (
  search (rules, the_lemmas, arith),
  boxed_room c.args.numbers.now c.args.plan.now c.get_mut.result.now c.get_mut.ensures.value
      c.requires,
)

pub number_boxed-returns : goal.number_boxed-returns
number_boxed-returns t c =
    boxed_numbered c.args.numbers.now c.number_plan.new.numbers c.args.plan.now c.get_mut.result.now c.number_plan.new.plan
    c.get_mut.ensures.value c.number_plan.ensures

pub number_join-take-own-requires : goal.number_join-take-own-requires
number_join-take-own-requires t c =
    join_take c.args.numbers.now c.get_mut-join.result.now (join_given c.args.numbers.now c.args.join.now c.get_mut-join.result.now
    c.get_mut-join.ensures.value c.requires)

pub number_join-number_plan-requires : goal.number_join-number_plan-requires
number_join-number_plan-requires t c = (
  search (rules, the_lemmas, arith),
  join_outer c.args.numbers.now c.get_mut-join.result.now (join_given c.args.numbers.now c.args.join.now c.get_mut-join.result.now
      c.get_mut-join.ensures.value c.requires) c.take-own.result c.take-own.new.next c.take-own.ensures.number
      c.take-own.ensures.next,
)

pub number_join-number_all-requires : goal.number_join-number_all-requires
number_join-number_all-requires t c = (
  search (rules, the_lemmas, arith),
  join_conds c.args.numbers.now c.get_mut-join.result.now (join_given c.args.numbers.now c.args.join.now c.get_mut-join.result.now
      c.get_mut-join.ensures.value c.requires) c.take-own.result c.take-own.new.next c.take-own.ensures.number
      c.take-own.ensures.next
      c.number_plan.new.numbers c.number_plan.new.plan c.number_plan.ensures _ (search (rules, the_lemmas)),
)

pub number_join-number_key-requires : goal.number_join-number_key-requires
number_join-number_key-requires t c = (
  search (rules, the_lemmas, arith),
  join_key c.args.numbers.now c.get_mut-join.result.now (join_given c.args.numbers.now c.args.join.now c.get_mut-join.result.now
      c.get_mut-join.ensures.value c.requires) c.take-own.result c.take-own.new.next c.take-own.ensures.number
      c.take-own.ensures.next
      c.number_plan.new.numbers c.number_plan.new.plan c.number_plan.ensures
      c.number_all.new.numbers _ (search (rules, the_lemmas)) c.number_all.new.plans c.number_all.ensures _ (search (rules, the_lemmas)),
)

pub number_join-number_scan-requires : goal.number_join-number_scan-requires
number_join-number_scan-requires t c =
    join_scan c.args.numbers.now c.get_mut-join.result.now (join_given c.args.numbers.now c.args.join.now c.get_mut-join.result.now
    c.get_mut-join.ensures.value c.requires) c.take-own.result c.take-own.new.next c.take-own.ensures.number
    c.take-own.ensures.next
    c.number_plan.new.numbers c.number_plan.new.plan c.number_plan.ensures
    c.number_all.new.numbers _ (search (rules, the_lemmas)) c.number_all.new.plans c.number_all.ensures
    c.number_key.new.numbers _ (search (rules, the_lemmas)) c.number_key.new.key c.number_key.ensures

pub number_join-number_plan-requires-2 : goal.number_join-number_plan-requires-2
number_join-number_plan-requires-2 t c = (
  search (rules, the_lemmas, arith),
  join_body c.args.numbers.now c.get_mut-join.result.now (join_given c.args.numbers.now c.args.join.now c.get_mut-join.result.now
      c.get_mut-join.ensures.value c.requires) c.take-own.result c.take-own.new.next c.take-own.ensures.number
      c.take-own.ensures.next
      c.number_plan.new.numbers c.number_plan.new.plan c.number_plan.ensures
      c.number_all.new.numbers _ (search (rules, the_lemmas)) c.number_all.new.plans c.number_all.ensures
      c.number_key.new.numbers _ (search (rules, the_lemmas)) c.number_key.new.key c.number_key.ensures
      c.number_scan.new.numbers _ (search (rules, the_lemmas)) c.number_scan.new.scan c.number_scan.ensures.same
      c.number_scan.ensures.number c.number_scan.ensures.numbers _ (search (rules, the_lemmas)),
)

pub number_join-returns : goal.number_join-returns
number_join-returns t c =
    join_back c.args.numbers.now c.number_plan-2.new.numbers c.args.join.now c.get_mut-join.result.now _ c.get_mut-join.ensures.value
    (join_numbered c.args.numbers.now c.get_mut-join.result.now (join_given c.args.numbers.now c.args.join.now c.get_mut-join.result.now
    c.get_mut-join.ensures.value c.requires) c.take-own.result c.take-own.new.next c.take-own.ensures.number
    c.take-own.ensures.next
    c.number_plan.new.numbers c.number_plan.new.plan c.number_plan.ensures
    c.number_all.new.numbers _ (search (rules, the_lemmas)) c.number_all.new.plans c.number_all.ensures
    c.number_key.new.numbers _ (search (rules, the_lemmas)) c.number_key.new.key c.number_key.ensures
    c.number_scan.new.numbers _ (search (rules, the_lemmas)) c.number_scan.new.scan c.number_scan.ensures.same c.number_scan.ensures.number
    c.number_scan.ensures.numbers
    c.number_plan-2.new.numbers _ (search (rules, the_lemmas)) c.number_plan-2.new.plan c.number_plan-2.ensures
    _ (search (rules, the_lemmas)))

pub number_key-number_plan-requires : goal.number_key-number_plan-requires
number_key-number_plan-requires t c =
    (search (rules, the_lemmas, arith), key_room c.args.numbers.now c.args.key.now c.in-Some.key c.in-Some.is c.requires)

pub number_key-returns-in-Some : goal.number_key-returns-in-Some
number_key-returns-in-Some t c =
    key_numbered c.args.numbers.now c.number_plan.new.numbers c.args.key.now c.in-Some.key c.number_plan.new.plan c.in-Some.is
    c.number_plan.ensures

pub number_key-returns-in-None : goal.number_key-returns-in-None
number_key-returns-in-None t c =
    no_key_numbered c.args.numbers.now c.args.key.now c.in-None.is

pub number_other-number_plan-requires : goal.number_other-number_plan-requires
number_other-number_plan-requires t c = (
  search (rules, the_lemmas, arith),
  other_room c.args.numbers.now c.args.other.now c.in-Some.other c.get_mut.result.now c.in-Some.is
      (c.get_mut.ensures.value ∙ c.in-Some.other-is) c.requires,
)

pub number_other-returns-in-Some : goal.number_other-returns-in-Some
number_other-returns-in-Some t c =
    other_numbered c.args.numbers.now c.number_plan.new.numbers c.args.other.now c.in-Some.other c.get_mut.result.now c.number_plan.new.plan
    c.in-Some.is (c.get_mut.ensures.value ∙ c.in-Some.other-is) c.number_plan.ensures

pub number_other-returns-in-None : goal.number_other-returns-in-None
number_other-returns-in-None t c =
    no_other_numbered c.args.numbers.now c.args.other.now c.in-None.is

pub number_all-number_plan-requires : goal.number_all-number_plan-requires
number_all-number_plan-requires t c = (
  search (rules, the_lemmas, arith),
  plans_room c.args.numbers.now c.plans.numbers c.args.plans.now c.slice_mut-plans.result.now
      c.plans.plans c.plans.i c.index-plans-i.result c.slice_mut-plans.ensures.value c.plans-test.true
      c.plans.invariant.unvisited c.requires c.plans.invariant.numbered,
)

pub number_all-plans-preserved : goal.number_all-plans-preserved
number_all-plans-preserved t c =
    record {
      unvisited = unvisited_more c.slice_mut-plans.result.now c.plans.plans c.plans.i _ c.plans.invariant.unvisited;
      numbered =
          plans_more c.args.numbers.now c.plans.numbers c.number_plan.new.numbers c.slice_mut-plans.result.now c.plans.plans c.plans.i
          c.index-plans-i.result c.number_plan.new.plan c.plans-test.true c.plans.invariant.unvisited c.plans.invariant.numbered
          c.number_plan.ensures;
    }

pub number_all-returns : goal.number_all-returns
number_all-returns t c =
    plans_numbered c.args.numbers.now c.plans.numbers c.args.plans.now c.slice_mut-plans.result.now c.plans.plans c.plans.i
    c.slice_mut-plans.ensures.value c.plans-test.false c.plans.auto.plans c.plans.invariant.numbered

pub number_labelled-number_plan-requires : goal.number_labelled-number_plan-requires
number_labelled-number_plan-requires t c = (
  search (rules, the_lemmas, arith),
  parts_room c.args.numbers.now c.parts.numbers c.args.parts.now c.slice_mut-parts.result.now
      c.parts.parts c.parts.i c.index-parts-i.result c.slice_mut-parts.ensures.value c.parts-test.true
      c.parts.invariant.unvisited c.requires c.parts.invariant.numbered,
)

pub number_labelled-parts-preserved : goal.number_labelled-parts-preserved
number_labelled-parts-preserved t c =
    record {
      unvisited = unvisited_more c.slice_mut-parts.result.now c.parts.parts c.parts.i _ c.parts.invariant.unvisited;
      numbered =
          parts_more c.args.numbers.now c.parts.numbers c.number_plan.new.numbers c.slice_mut-parts.result.now c.parts.parts c.parts.i
          c.index-parts-i.result c.number_plan.new.plan c.parts-test.true c.parts.invariant.unvisited c.parts.invariant.numbered
          c.number_plan.ensures;
    }

pub number_labelled-returns : goal.number_labelled-returns
number_labelled-returns t c =
    parts_numbered c.args.numbers.now c.parts.numbers c.args.parts.now c.slice_mut-parts.result.now c.parts.parts c.parts.i
    c.slice_mut-parts.ensures.value c.parts-test.false c.parts.auto.parts c.parts.invariant.numbered
