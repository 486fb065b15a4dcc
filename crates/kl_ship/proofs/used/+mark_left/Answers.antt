use Rattle.std.proofs.Common.{◌||◌, refl}
use Rattle.kl_core.specs.Trees.{view}
use Rattle.kl_ship.specs.Delegation.{left, column_use}
use Rattle.kl_ship.proofs.Marked.{marks_then, left_use}
use Rattle.kl_ship.proofs.used.+mark_left.Goals as goal

pub returns-then-is_front : goal.returns-then-is_front
returns-then-is_front t c n e =
    let k = c.args.kind in
    let i = c.args.rows in
    marks_then _ (λ l. column_use n l (view c.get-then-is_front-2.result.now)) (λ l. column_use n l (left k i (view c.get-then-is_front-3.result.now)) || column_use n l (view c.get-then-is_front-4.result.now)) (λ l. column_use n l (left k i (view c.args.body.now)))
    c.args.columns.now c.mark.new.columns c.mark-then-is_front.new.columns
    (left_use k i _ _ _ _ _ _ _ _ _ c.in-If.is c.get.ensures c.get-in-If.ensures c.is_front.ensures c.if-is_front.true c.get-then-is_front.ensures c.is_test.ensures c.if-is_test.false
    n _ _ _ c.get-then-is_front-2.ensures c.get-then-is_front-3.ensures c.get-then-is_front-4.ensures)
    (c.in_ok-mark.ensures n e)
    (marks_then _ (λ l. column_use n l (left k i (view c.get-then-is_front-3.result.now))) (λ l. column_use n l (view c.get-then-is_front-4.result.now))
    (λ l. column_use n l (left k i (view c.get-then-is_front-3.result.now)) || column_use n l (view c.get-then-is_front-4.result.now))
    c.mark.new.columns c.mark_left-then-is_front.new.columns c.mark-then-is_front.new.columns (λ l. refl) (c.in_ok-mark_left.ensures n e) (c.mark-then-is_front.ensures n e))
