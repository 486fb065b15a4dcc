use Rattle.std.proofs.Common.{rules, arith, refl, subst, sym}
use Rattle.kl_base.specs.Fields.{labels_of}
use Rattle.kl_core.specs.Trees.{view}
use Rattle.kl_core.specs.declared.term.Term.{the_lemmas}
use Rattle.kl_core.proofs.Made.{made, made_of_two, made_of_three}
use Rattle.kl_rules.specs.Unpacked.{HasRoom}
use Rattle.kl_rules.proofs.Rooms.{room_Make, room_Prim, room_Rec, room_Proj, room_Inj, room_Union, room_Ext, room_If, room_Let, room_Case, room_rest, unpack_Make, unpack_Prim, unpack_Rec, unpack_Inj, unpack_Union, unpack_Ext, unpack_If, unpack_Let, unpack_Case, unpack_nothing}
use Rattle.kl_rules.proofs.records.+unpack.Goals as goal

pub unpack-unpack_labelled-requires : goal.unpack-unpack_labelled-requires
unpack-unpack_labelled-requires t c = (search (rules, the_lemmas, arith), (c.requires.few, room_Rec _ _ _ _ c.in-Rec.is c.slice.ensures c.requires.room))

pub unpack-unpack_box-requires : goal.unpack-unpack_box-requires
unpack-unpack_box-requires t c = (search (rules, the_lemmas, arith), (c.requires.few, room_Proj _ _ _ _ c.in-Proj.is c.requires.room))

pub unpack-unpack_box-requires-in-Inj : goal.unpack-unpack_box-requires-in-Inj
unpack-unpack_box-requires-in-Inj t c = (search (rules, the_lemmas, arith), (c.requires.few, room_Inj _ _ _ _ c.in-Inj.is c.requires.room))

pub unpack-unpack_box-requires-in-Case : goal.unpack-unpack_box-requires-in-Case
unpack-unpack_box-requires-in-Case t c = (search (rules, the_lemmas, arith), (c.requires.few, (room_Case _ _ _ _ _ _ c.in-Case.is refl c.requires.room).0))

pub unpack-unpack_labelled-requires-in-Case : goal.unpack-unpack_labelled-requires-in-Case
unpack-unpack_labelled-requires-in-Case t c = (search (rules, the_lemmas, arith), (c.requires.few, (room_Case _ _ _ _ _ _ c.in-Case.is c.slice-in-Case.ensures c.requires.room).1))

pub unpack-unpack_other-requires : goal.unpack-unpack_other-requires
unpack-unpack_other-requires t c = (search (rules, the_lemmas, arith), (c.requires.few, (room_Case _ _ _ _ _ _ c.in-Case.is refl c.requires.room).2))

pub unpack-unpack_all-requires : goal.unpack-unpack_all-requires
unpack-unpack_all-requires t c = (search (rules, the_lemmas, arith), (c.requires.few, room_Make _ _ _ _ _ c.in-Make.is c.slice-in-Make.ensures c.requires.room))

pub unpack-unpack_box-requires-in-Union : goal.unpack-unpack_box-requires-in-Union
unpack-unpack_box-requires-in-Union t c = (search (rules, the_lemmas, arith), (c.requires.few, (room_Union _ _ _ _ c.in-Union.is c.requires.room).0))

pub unpack-unpack_box-requires-in-Union-2 : goal.unpack-unpack_box-requires-in-Union-2
unpack-unpack_box-requires-in-Union-2 t c = (search (rules, the_lemmas, arith), (c.requires.few, (room_Union _ _ _ _ c.in-Union.is c.requires.room).1))

pub unpack-unpack_box-requires-in-Ext : goal.unpack-unpack_box-requires-in-Ext
unpack-unpack_box-requires-in-Ext t c = (search (rules, the_lemmas, arith), (c.requires.few, (room_Ext _ _ _ _ _ c.in-Ext.is c.requires.room).0))

pub unpack-unpack_box-requires-in-Ext-2 : goal.unpack-unpack_box-requires-in-Ext-2
unpack-unpack_box-requires-in-Ext-2 t c = (search (rules, the_lemmas, arith), (c.requires.few, (room_Ext _ _ _ _ _ c.in-Ext.is c.requires.room).1))

pub unpack-unpack_box-requires-in-If : goal.unpack-unpack_box-requires-in-If
unpack-unpack_box-requires-in-If t c = (search (rules, the_lemmas, arith), (c.requires.few, (room_If _ _ _ _ _ c.in-If.is c.requires.room).0))

pub unpack-unpack_box-requires-in-If-2 : goal.unpack-unpack_box-requires-in-If-2
unpack-unpack_box-requires-in-If-2 t c = (search (rules, the_lemmas, arith), (c.requires.few, (room_If _ _ _ _ _ c.in-If.is c.requires.room).1))

pub unpack-unpack_box-requires-in-If-3 : goal.unpack-unpack_box-requires-in-If-3
unpack-unpack_box-requires-in-If-3 t c = (search (rules, the_lemmas, arith), (c.requires.few, (room_If _ _ _ _ _ c.in-If.is c.requires.room).2))

pub unpack-unpack_box-requires-in-Let : goal.unpack-unpack_box-requires-in-Let
unpack-unpack_box-requires-in-Let t c = (search (rules, the_lemmas, arith), (c.requires.few, (room_Let _ _ _ _ c.in-Let.is c.requires.room).0))

pub unpack-unpack_box-requires-in-Let-2 : goal.unpack-unpack_box-requires-in-Let-2
unpack-unpack_box-requires-in-Let-2 t c = (search (rules, the_lemmas, arith), (c.requires.few, (room_Let _ _ _ _ c.in-Let.is c.requires.room).1))

pub unpack-unpack_all-requires-in-Prim : goal.unpack-unpack_all-requires-in-Prim
unpack-unpack_all-requires-in-Prim t c = (search (rules, the_lemmas, arith), (c.requires.few, room_Prim _ _ _ _ _ c.in-Prim.is c.slice-in-Prim.ensures c.requires.room))

pub unpack-returns-in-Rec : goal.unpack-returns-in-Rec
unpack-returns-in-Rec t c = made _ _ _ _ _ c.record.ensures c.unpack_labelled.ensures (λ qs h. unpack_Rec (labels_of c.args.fields.now) _ _ _ _ _ c.in-Rec.is c.slice.ensures h)

pub unpack-returns-in-Inj : goal.unpack-returns-in-Inj
unpack-returns-in-Inj t c = made _ _ _ _ _ c.injection.ensures c.unpack_box-in-Inj.ensures (λ x h. unpack_Inj (labels_of c.args.fields.now) _ _ _ _ _ c.in-Inj.is h)

pub unpack-returns-in-Case : goal.unpack-returns-in-Case
unpack-returns-in-Case t c = made_of_three _ _ _ _ _ _ _ _ _ c.case.ensures c.unpack_box-in-Case.ensures c.unpack_labelled-in-Case.ensures c.unpack_other.ensures (λ x qs d g h i. unpack_Case (labels_of c.args.fields.now) _ _ _ _ _ _ _ _ _ c.in-Case.is g c.slice-in-Case.ensures h i)

pub unpack-returns-in-Make : goal.unpack-returns-in-Make
unpack-returns-in-Make t c = made _ _ _ _ _ c.collection.ensures c.unpack_all.ensures (λ us h. unpack_Make (labels_of c.args.fields.now) _ _ _ _ _ _ c.in-Make.is c.slice-in-Make.ensures h)

pub unpack-returns-in-Union : goal.unpack-returns-in-Union
unpack-returns-in-Union t c = made_of_two _ c.unpack_box-in-Union.result c.unpack_box-in-Union-2.result c.union.result _ _ _ c.union.ensures c.unpack_box-in-Union.ensures c.unpack_box-in-Union-2.ensures (λ x y h i. unpack_Union (labels_of c.args.fields.now) _ _ _ _ _ _ c.in-Union.is h i)

pub unpack-returns-in-Ext : goal.unpack-returns-in-Ext
unpack-returns-in-Ext t c = made_of_two _ c.unpack_box-in-Ext.result c.unpack_box-in-Ext-2.result c.extension.result _ _ _ c.extension.ensures c.unpack_box-in-Ext.ensures c.unpack_box-in-Ext-2.ensures (λ x y h i. unpack_Ext (labels_of c.args.fields.now) _ _ _ _ _ _ _ c.in-Ext.is h i)

pub unpack-returns-in-If : goal.unpack-returns-in-If
unpack-returns-in-If t c = made_of_three _ _ _ _ _ _ _ _ _ c.test.ensures c.unpack_box-in-If.ensures c.unpack_box-in-If-2.ensures c.unpack_box-in-If-3.ensures (λ x y z h i j. unpack_If (labels_of c.args.fields.now) _ _ _ _ _ _ _ _ c.in-If.is h i j)

pub unpack-returns-in-Let : goal.unpack-returns-in-Let
unpack-returns-in-Let t c = made_of_two _ c.unpack_box-in-Let.result c.unpack_box-in-Let-2.result c.binding.result _ _ _ c.binding.ensures c.unpack_box-in-Let.ensures c.unpack_box-in-Let-2.ensures (λ x y h i. unpack_Let (labels_of c.args.fields.now) _ _ _ _ _ _ c.in-Let.is h i)

pub unpack-returns-in-Prim : goal.unpack-returns-in-Prim
unpack-returns-in-Prim t c = made _ _ _ _ _ c.primitive.ensures c.unpack_all-in-Prim.ensures (λ us h. unpack_Prim (labels_of c.args.fields.now) _ _ _ _ _ _ c.in-Prim.is c.slice-in-Prim.ensures h)

pub unpack_other-unpack-requires : goal.unpack_other-unpack-requires
unpack_other-unpack-requires t c = (search (rules, the_lemmas, arith), (c.requires.few, room_rest _ _ _ _ c.in-Some.is c.get.ensures c.requires.room))

pub unpack_other-returns-in-None : goal.unpack_other-returns-in-None
unpack_other-returns-in-None t c = unpack_nothing (labels_of c.args.fields.now) _ _ c.in-None.is

pub unpack_all-unpack-requires : goal.unpack_all-unpack-requires
unfolding Rattle.kl_core.specs.declared.term.Term.TheBlock.the_depth
unpack_all-unpack-requires t c =
    let room = subst (λ p. HasRoom (view p) c.args.at) (sym c.term-item.is) (c.requires.room c.loop-term.term-index c.term-item.result c.loop-term-test.true) in
    (search (rules, the_lemmas, arith), (c.requires.few, room))

pub unpack_labelled-unpack-requires : goal.unpack_labelled-unpack-requires
unfolding Rattle.kl_core.specs.declared.term.Term.TheBlock.the_depth
unpack_labelled-unpack-requires t c =
    let room = subst (λ p. HasRoom (view p.1) c.args.at) (sym c.part-item.is) (c.requires.room c.loop-part.part-index c.part-item.result c.loop-part-test.true) in
    (search (rules, the_lemmas, arith), (c.requires.few, room))
