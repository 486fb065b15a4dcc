use Rattle.std.proofs.Common.{◌+◌, ◌||◌, arith, refl}
use Rattle.kl_core.specs.Trees.{view}
use Rattle.kl_ship.specs.Delegation.{column_use}
use Rattle.kl_ship.proofs.Marked.{marks_then, union_use, loop_use, let_use, if_use, marks_other, marks_branches}
use Rattle.kl_ship.proofs.used.+mark.Goals as goal

pub mark-returns-in-Some : goal.mark-returns-in-Some
mark-returns-in-Some t c n e =
    marks_other n _ _ _ _ _ c.args.columns.now c.mark-in-Case.new.columns c.mark_labelled-in-Case.new.columns _ _ _ _ c.mark-in-Some.new.columns c.in-Case.is c.get-in-Case.ensures c.slice-in-Case.ensures c.in-Some.is c.get-in-Some.ensures
    (c.in_ok-mark-in-Case.ensures n e) (c.in_ok-mark_labelled-in-Case.ensures (n + 1) (omega arith)) (c.mark-in-Some.ensures n e)

pub mark-returns-in-None : goal.mark-returns-in-None
mark-returns-in-None t c n e =
    marks_branches n _ _ _ _ _ c.args.columns.now c.mark-in-Case.new.columns c.mark_labelled-in-Case.new.columns _ c.in-Case.is c.get-in-Case.ensures c.slice-in-Case.ensures c.in-None.is
    (c.in_ok-mark-in-Case.ensures n e) (c.in_ok-mark_labelled-in-Case.ensures (n + 1) (omega arith))

pub mark-returns-in_ok-mark-in-Union : goal.mark-returns-in_ok-mark-in-Union
mark-returns-in_ok-mark-in-Union t c n e =
    marks_then _ (λ l. column_use n l (view c.get-in-Union.result.now)) (λ l. column_use n l (view c.get-in-Union-2.result.now)) (λ l. column_use n l (view c.args.term.now)) c.args.columns.now c.mark-in-Union.new.columns c.mark-in-Union-2.new.columns
    (union_use n _ _ _ _ _ c.in-Union.is c.get-in-Union.ensures c.get-in-Union-2.ensures) (c.in_ok-mark-in-Union.ensures n e) (c.mark-in-Union-2.ensures n e)

pub mark-returns-in_ok-mark-in-Ext : goal.mark-returns-in_ok-mark-in-Ext
mark-returns-in_ok-mark-in-Ext t c n e =
    marks_then _ (λ l. column_use (n + 1) l (view c.get-in-Ext.result.now)) (λ l. column_use n l (view c.get-in-Ext-2.result.now)) (λ l. column_use n l (view c.args.term.now)) c.args.columns.now c.mark-in-Ext.new.columns c.mark-in-Ext-2.new.columns
    (loop_use n _ _ _ _ _ _ c.in-Ext.is c.get-in-Ext.ensures c.get-in-Ext-2.ensures) (c.in_ok-mark-in-Ext.ensures (n + 1) (omega arith)) (c.mark-in-Ext-2.ensures n e)

pub mark-returns-in_ok-mark-in-If-2 : goal.mark-returns-in_ok-mark-in-If-2
mark-returns-in_ok-mark-in-If-2 t c n e =
    marks_then _ (λ l. column_use n l (view c.get-in-If.result.now)) (λ l. column_use n l (view c.get-in-If-2.result.now) || column_use n l (view c.get-in-If-3.result.now)) (λ l. column_use n l (view c.args.term.now)) c.args.columns.now c.mark-in-If.new.columns c.mark-in-If-3.new.columns
    (if_use n _ _ _ _ _ _ _ c.in-If.is c.get-in-If.ensures c.get-in-If-2.ensures c.get-in-If-3.ensures) (c.in_ok-mark-in-If.ensures n e)
    (marks_then _ (λ l. column_use n l (view c.get-in-If-2.result.now)) (λ l. column_use n l (view c.get-in-If-3.result.now)) (λ l. column_use n l (view c.get-in-If-2.result.now) || column_use n l (view c.get-in-If-3.result.now)) c.mark-in-If.new.columns c.mark-in-If-2.new.columns c.mark-in-If-3.new.columns
    (λ l. refl) (c.in_ok-mark-in-If-2.ensures n e) (c.mark-in-If-3.ensures n e))

pub mark-returns-in_ok-mark-in-Let : goal.mark-returns-in_ok-mark-in-Let
mark-returns-in_ok-mark-in-Let t c n e =
    marks_then _ (λ l. column_use n l (view c.get-in-Let.result.now)) (λ l. column_use (n + 1) l (view c.get-in-Let-2.result.now)) (λ l. column_use n l (view c.args.term.now)) c.args.columns.now c.mark-in-Let.new.columns c.mark-in-Let-2.new.columns
    (let_use n _ _ _ _ _ c.in-Let.is c.get-in-Let.ensures c.get-in-Let-2.ensures) (c.in_ok-mark-in-Let.ensures n e) (c.mark-in-Let-2.ensures (n + 1) (omega arith))
