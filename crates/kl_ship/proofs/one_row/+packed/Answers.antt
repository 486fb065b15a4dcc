use Rattle.std.proofs.Common.{refl, sym, ap, ◌∙◌, ◌+◌, arith}
use Rattle.kl_core.proofs.Made.{made, made_of_two, made_of_three}
use Rattle.kl_core.proofs.Views.{view_Ext, view_Let}
use Rattle.kl_core.specs.Trees.{Ext, Let, view}
use Rattle.kl_ship.specs.Packed.{over_rows}
use Rattle.kl_ship.proofs.PackedTerms.{over_Rec, over_Make, over_Prim, over_Case}
use Rattle.kl_ship.proofs.one_row.+packed.Goals as goal

pub packed-returns-in-Rec : goal.packed-returns-in-Rec
packed-returns-in-Rec t c n e = made _ _ _ _ _ c.record.ensures (c.packed_labelled.ensures n e) (λ qs h. over_Rec c.args.shown.now.columns.items c.args.shown.now.all.items _ _ _ _ _ c.in-Rec.is c.slice.ensures h)

pub packed-returns-in-Case : goal.packed-returns-in-Case
packed-returns-in-Case t c n e = made_of_three _ _ _ _ _ _ _ _ _ c.case.ensures (c.packed_box-in-Case.ensures n e) (c.packed_labelled-in-Case.ensures (n + 1) (omega arith)) (c.packed_other.ensures n e)
    (λ x qs d g h i. over_Case c.args.shown.now.columns.items c.args.shown.now.all.items _ _ _ _ _ _ _ _ _ _ c.in-Case.is refl g c.slice-in-Case.ensures h i)

pub packed-returns-in-Make : goal.packed-returns-in-Make
packed-returns-in-Make t c n e = made _ _ _ _ _ c.collection.ensures (c.packed_all.ensures n e) (λ us h. over_Make c.args.shown.now.columns.items c.args.shown.now.all.items _ _ _ _ _ _ c.in-Make.is c.slice-in-Make.ensures h)

pub packed-returns-in-Prim : goal.packed-returns-in-Prim
packed-returns-in-Prim t c n e = made _ _ _ _ _ c.primitive.ensures (c.packed_all-in-Prim.ensures n e) (λ us h. over_Prim c.args.shown.now.columns.items c.args.shown.now.all.items _ _ _ _ _ _ c.in-Prim.is c.slice-in-Prim.ensures h)

pub packed-returns-in-Ext : goal.packed-returns-in-Ext
packed-returns-in-Ext t c n e =
    made_of_two _ _ _ _ _ _ _ c.extension.ensures (c.packed_box-in-Ext.ensures (n + 1) (omega arith)) (c.packed_box-in-Ext-2.ensures n e)
    (λ x y h i. view_Ext c.in-Ext.kind x y ∙ ap (λ q. Ext c.in-Ext.kind q (view y)) h
    ∙ ap (Ext c.in-Ext.kind (over_rows c.args.shown.now.columns.items c.args.shown.now.all.items (n + 1) (view c.in-Ext.body))) i
    ∙ sym (ap (over_rows c.args.shown.now.columns.items c.args.shown.now.all.items n) (ap view c.in-Ext.is ∙ view_Ext c.in-Ext.kind c.in-Ext.body c.in-Ext.source)))

pub packed-returns-in-Let : goal.packed-returns-in-Let
packed-returns-in-Let t c n e =
    made_of_two _ _ _ _ _ _ _ c.binding.ensures (c.packed_box-in-Let.ensures n e) (c.packed_box-in-Let-2.ensures (n + 1) (omega arith))
    (λ x y h i. view_Let x y ∙ ap (λ q. Let q (view y)) h
    ∙ ap (Let (over_rows c.args.shown.now.columns.items c.args.shown.now.all.items n (view c.in-Let.a))) i
    ∙ sym (ap (over_rows c.args.shown.now.columns.items c.args.shown.now.all.items n) (ap view c.in-Let.is ∙ view_Let c.in-Let.a c.in-Let.b)))
