use Rattle.std.proofs.Common.{rules, arith, subst as along, sym}
use Rattle.kl_core.specs.Trees.{view}
use Rattle.kl_core.specs.Inside.{RoomIn, RoomUnder}
use Rattle.kl_core.specs.declared.term.Term.{the_lemmas}
use Rattle.kl_core.proofs.Made.{made, made_of_two, made_of_three}
use Rattle.kl_core.proofs.Putting.{room_Rec, room_Proj, room_Inj, case_room, room_branches, room_other, room_rest, room_Make, room_Union, room_Ext, room_If, room_Let, room_Prim, put_Rec, put_Proj, put_Inj, put_Case, put_nothing, put_Make, put_Union, put_Ext, put_If, put_Let, put_Prim, put_deeper}
use Rattle.kl_core.proofs.replacing.+put.Goals as goal

pub put-put_fields-requires : goal.put-put_fields-requires
put-put_fields-requires t c = (search (rules, the_lemmas, arith), (room_Rec _ _ _ _ _ _ c.in-Rec.is c.slice.ensures c.requires.room, c.requires.inside))

pub put-put_box-requires : goal.put-put_box-requires
put-put_box-requires t c = (search (rules, the_lemmas, arith), (room_Proj _ _ _ _ _ _ c.in-Proj.is c.requires.room, c.requires.inside))

pub put-put_box-requires-in-Inj : goal.put-put_box-requires-in-Inj
put-put_box-requires-in-Inj t c = (search (rules, the_lemmas, arith), (room_Inj _ _ _ _ _ _ c.in-Inj.is c.requires.room, c.requires.inside))

pub put-put_box-requires-in-Case : goal.put-put_box-requires-in-Case
put-put_box-requires-in-Case t c = (search (rules, the_lemmas, arith), ((case_room _ _ _ _ _ _ _ c.in-Case.is c.requires.room).0, c.requires.inside))

pub put-put_branches-requires : goal.put-put_branches-requires
put-put_branches-requires t c = (search (rules, the_lemmas, arith), (room_branches _ _ _ _ _ _ _ _ c.in-Case.is c.slice-in-Case.ensures c.requires.room, c.requires.inside))

pub put-put_other-requires : goal.put-put_other-requires
put-put_other-requires t c = (search (rules, the_lemmas, arith), (room_other _ _ _ _ _ _ _ c.in-Case.is c.requires.room, c.requires.inside))

pub put-put_all-requires : goal.put-put_all-requires
put-put_all-requires t c = (search (rules, the_lemmas, arith), (room_Make _ _ _ _ _ _ _ c.in-Make.is c.slice-in-Make.ensures c.requires.room, c.requires.inside))

pub put-put_box-requires-in-Union : goal.put-put_box-requires-in-Union
put-put_box-requires-in-Union t c = (search (rules, the_lemmas, arith), ((room_Union _ _ _ _ _ _ c.in-Union.is c.requires.room).0, c.requires.inside))

pub put-put_box-requires-in-Union-2 : goal.put-put_box-requires-in-Union-2
put-put_box-requires-in-Union-2 t c = (search (rules, the_lemmas, arith), ((room_Union _ _ _ _ _ _ c.in-Union.is c.requires.room).1, c.requires.inside))

pub put-put_body-requires : goal.put-put_body-requires
put-put_body-requires t c = (search (rules, the_lemmas, arith), ((room_Ext _ _ _ _ _ _ _ c.in-Ext.is c.requires.room).1, c.requires.inside))

pub put-put_box-requires-in-Ext : goal.put-put_box-requires-in-Ext
put-put_box-requires-in-Ext t c = (search (rules, the_lemmas, arith), ((room_Ext _ _ _ _ _ _ _ c.in-Ext.is c.requires.room).0, c.requires.inside))

pub put-put_box-requires-in-If : goal.put-put_box-requires-in-If
put-put_box-requires-in-If t c = (search (rules, the_lemmas, arith), ((room_If _ _ _ _ _ _ _ c.in-If.is c.requires.room).0, c.requires.inside))

pub put-put_box-requires-in-If-2 : goal.put-put_box-requires-in-If-2
put-put_box-requires-in-If-2 t c = (search (rules, the_lemmas, arith), ((room_If _ _ _ _ _ _ _ c.in-If.is c.requires.room).1, c.requires.inside))

pub put-put_box-requires-in-If-3 : goal.put-put_box-requires-in-If-3
put-put_box-requires-in-If-3 t c = (search (rules, the_lemmas, arith), ((room_If _ _ _ _ _ _ _ c.in-If.is c.requires.room).2, c.requires.inside))

pub put-put_box-requires-in-Let : goal.put-put_box-requires-in-Let
put-put_box-requires-in-Let t c = (search (rules, the_lemmas, arith), ((room_Let _ _ _ _ _ _ c.in-Let.is c.requires.room).0, c.requires.inside))

pub put-put_body-requires-in-Let : goal.put-put_body-requires-in-Let
put-put_body-requires-in-Let t c = (search (rules, the_lemmas, arith), ((room_Let _ _ _ _ _ _ c.in-Let.is c.requires.room).1, c.requires.inside))

pub put-put_all-requires-in-Prim : goal.put-put_all-requires-in-Prim
put-put_all-requires-in-Prim t c = (search (rules, the_lemmas, arith), (room_Prim _ _ _ _ _ _ _ c.in-Prim.is c.slice-in-Prim.ensures c.requires.room, c.requires.inside))

pub put-returns-in-Rec : goal.put-returns-in-Rec
put-returns-in-Rec t c = made _ _ _ _ _ c.record.ensures c.put_fields.ensures (λ qs h. put_Rec _ _ _ _ _ _ c.in-Rec.is c.slice.ensures h)

pub put-returns-in-Proj : goal.put-returns-in-Proj
put-returns-in-Proj t c = made _ _ _ _ _ c.projection.ensures c.put_box.ensures (λ x h. put_Proj _ _ _ _ _ _ c.in-Proj.is h)

pub put-returns-in-Inj : goal.put-returns-in-Inj
put-returns-in-Inj t c = made _ _ _ _ _ c.injection.ensures c.put_box-in-Inj.ensures (λ x h. put_Inj _ _ _ _ _ _ c.in-Inj.is h)

pub put-returns-in-Case : goal.put-returns-in-Case
put-returns-in-Case t c = made_of_three _ _ _ _ _ _ _ _ _ c.case.ensures c.put_box-in-Case.ensures c.put_branches.ensures c.put_other.ensures (λ x qs d g h i. put_Case _ _ _ _ _ _ _ _ _ _ c.in-Case.is g c.slice-in-Case.ensures h i)

pub put-returns-in-Make : goal.put-returns-in-Make
put-returns-in-Make t c = made _ _ _ _ _ c.collection.ensures c.put_all.ensures (λ us h. put_Make _ _ _ _ _ _ _ c.in-Make.is c.slice-in-Make.ensures h)

pub put-returns-in-Union : goal.put-returns-in-Union
put-returns-in-Union t c = made_of_two _ c.put_box-in-Union.result c.put_box-in-Union-2.result c.union.result _ _ _ c.union.ensures c.put_box-in-Union.ensures c.put_box-in-Union-2.ensures (λ x y h i. put_Union _ _ _ _ _ _ _ c.in-Union.is h i)

pub put-returns-in-Ext : goal.put-returns-in-Ext
put-returns-in-Ext t c = made_of_two _ c.put_body.result c.put_box-in-Ext.result c.extension.result _ _ _ c.extension.ensures c.put_body.ensures c.put_box-in-Ext.ensures (λ x y h i. put_Ext _ _ _ _ _ _ _ _ c.in-Ext.is h i)

pub put-returns-in-If : goal.put-returns-in-If
put-returns-in-If t c = made_of_three _ _ _ _ _ _ _ _ _ c.test.ensures c.put_box-in-If.ensures c.put_box-in-If-2.ensures c.put_box-in-If-3.ensures (λ x y z h i j. put_If _ _ _ _ _ _ _ _ _ c.in-If.is h i j)

pub put-returns-in-Let : goal.put-returns-in-Let
put-returns-in-Let t c = made_of_two _ c.put_box-in-Let.result c.put_body-in-Let.result c.binding.result _ _ _ c.binding.ensures c.put_box-in-Let.ensures c.put_body-in-Let.ensures (λ x y h i. put_Let _ _ _ _ _ _ _ c.in-Let.is h i)

pub put-returns-in-Prim : goal.put-returns-in-Prim
put-returns-in-Prim t c = made _ _ _ _ _ c.primitive.ensures c.put_all-in-Prim.ensures (λ us h. put_Prim _ _ _ _ _ _ _ c.in-Prim.is c.slice-in-Prim.ensures h)

pub put_other-put-requires : goal.put_other-put-requires
put_other-put-requires t c = (search (rules, the_lemmas, arith), (room_rest _ _ _ _ _ _ c.in-Some.is c.get.ensures c.requires.room, c.requires.inside))

pub put_other-returns-in-None : goal.put_other-returns-in-None
put_other-returns-in-None t c = put_nothing _ _ _ c.in-None.is

pub put_branches-put_under-requires : goal.put_branches-put_under-requires
unfolding Rattle.kl_core.specs.declared.term.Term.TheBlock.the_depth
put_branches-put_under-requires t c =
    let room = along (λ p. RoomUnder (view p.1) c.args.at c.args.under (view c.args.with.now)) (sym c.branch-item.is) (c.requires.room c.loop-branch.branch-index c.branch-item.result c.loop-branch-test.true) in
    (search (rules, the_lemmas, arith), (room, c.requires.inside))

pub put_fields-put-requires : goal.put_fields-put-requires
unfolding Rattle.kl_core.specs.declared.term.Term.TheBlock.the_depth
put_fields-put-requires t c =
    let room = along (λ p. RoomIn (view p.1) c.args.at c.args.under (view c.args.with.now)) (sym c.field-item.is) (c.requires.room c.loop-field.field-index c.field-item.result c.loop-field-test.true) in
    (search (rules, the_lemmas, arith), (room, c.requires.inside))

pub put_under-returns : goal.put_under-returns
put_under-returns t c = put_deeper c.put.result (view c.args.term.now) (view c.args.with.now) c.args.at c.args.under c.put.ensures
