use Rattle.std.proofs.Common.{◌≡◌, true, IfOk, refl, sym, ap, subst, ◌∙◌}
use Rattle.kl_core.proofs.Made.{made_of_three}
use Rattle.kl_core.proofs.Views.{view_If}
use Rattle.kl_core.specs.Trees.{If, view}
use Rattle.kl_ship.specs.Delegation.{left}
use Rattle.kl_ship.specs.Packed.{over_rows}
use Rattle.kl_ship.proofs.PackedFronts.{body_tested, body_kept}
use Rattle.kl_ship.proofs.one_row.+left.Goals as goal

pub left-returns-then-is_test : goal.left-returns-then-is_test
left-returns-then-is_test t c =
    subst (λ d. IfOk c.left.result (λ q. view q ≡ over_rows c.args.shown.now.columns.items c.args.shown.now.all.items 0 d))
    (sym (body_tested c.args.kind c.args.rows true _ _ _ _ _ _ _ _ _ refl c.in-If.is c.get.ensures c.get-in-If.ensures c.get-in-If-2.ensures c.is_front.ensures c.if-not-is_front.false c.is_test.ensures c.if-is_test.true))
    (rw c.get-then-is_test.ensures at c.left.ensures)

pub left-returns-else-is_test : goal.left-returns-else-is_test
left-returns-else-is_test t c =
    let kept = body_kept c.args.kind c.args.rows true _ _ _ _ _ _ _ _ _ refl c.in-If.is c.get.ensures c.get-in-If.ensures c.get-in-If-2.ensures c.is_front.ensures c.if-not-is_front.false c.is_test.ensures c.if-is_test.false in
    made_of_three _ _ _ _ _ _ _ _ _ c.test.ensures (c.packed_box.ensures 0 refl) c.left_box.ensures (c.packed_box-in-If.ensures 0 refl)
    (λ x y z h i j.
    view_If x y z ∙ ap (λ q. If q (view y) (view z)) h
    ∙ ap (λ q. If (over_rows c.args.shown.now.columns.items c.args.shown.now.all.items 0 (view c.in-If.condition)) q (view z)) i
    ∙ ap (λ q. If (over_rows c.args.shown.now.columns.items c.args.shown.now.all.items 0 (view c.in-If.condition)) (over_rows c.args.shown.now.columns.items c.args.shown.now.all.items 0 (left c.args.kind c.args.rows (view c.in-If.yes))) q) j
    ∙ ap (over_rows c.args.shown.now.columns.items c.args.shown.now.all.items 0) (sym kept))
