use Rattle.std.proofs.Common.{refl}
use Rattle.kl_plan.specs.Joins.{join_view}
use Rattle.kl_plan.proofs.Views.{view_join}
use Rattle.kl_tools.proofs.Telling.{as_nodes, behind_part, behind_parts, fields_done, fields_goes, nodes_done, nodes_goes}
use Rattle.kl_tools.proofs.Telling.{tells_Case, tells_Ext, tells_If, tells_Join, tells_Let}
use Rattle.kl_tools.proofs.Telling.{tells_Memo, tells_Union}
use Rattle.kl_tools.proofs.explaining.+tell.Goals as goal

pub tell-returns-in-Case : goal.tell-returns-in-Case
tell-returns-in-Case t c = behind_parts _ _ _ _ _ _ _ c.tell_part-told.ensures c.tell_branches-told.ensures c.tell_other.ensures
    (tells_Case _ _ _ _ _ _ _ _ _ _ _ _ c.in-Case.is refl c.slice-in-Case.ensures)

pub tell-returns-in-Union : goal.tell-returns-in-Union
tell-returns-in-Union t c = behind_part _ _ _ _ _ c.tell_part-told-in-Union.ensures c.tell_next.ensures
    (tells_Union _ _ _ _ _ _ _ _ _ _ c.in-Union.is refl refl)

pub tell-returns-in-Ext : goal.tell-returns-in-Ext
tell-returns-in-Ext t c = behind_part _ _ _ _ _ c.tell_part-told-in-Ext.ensures c.tell_next-in-Ext.ensures
    (tells_Ext _ _ _ _ _ _ _ _ _ _ _ c.in-Ext.is refl refl)

pub tell-returns-in-If : goal.tell-returns-in-If
tell-returns-in-If t c = behind_parts _ _ _ _ _ _ _ c.tell_part-told-in-If.ensures c.tell_next-told.ensures c.tell_next-in-If.ensures
    (tells_If _ _ _ _ _ _ _ _ _ _ _ _ _ c.in-If.is refl refl refl)

pub tell-returns-in-Let : goal.tell-returns-in-Let
tell-returns-in-Let t c = behind_part _ _ _ _ _ c.tell_part-told-in-Let.ensures c.tell_next-in-Let.ensures
    (tells_Let _ _ _ _ _ _ _ _ _ _ c.in-Let.is refl refl)

pub tell-returns-in-Memo : goal.tell-returns-in-Memo
tell-returns-in-Memo t c = behind_part _ _ _ _ _ c.put_memo-told.ensures c.tell_next-in-Memo.ensures
    (tells_Memo _ _ _ _ _ _ _ _ _ _ c.in-Memo.is refl refl refl)

pub tell_all-plans-preserved : goal.tell_all-plans-preserved
tell_all-plans-preserved t c = nodes_goes _ _ _ _ _ _ _ c.plans-test.true c.plan-item.is c.plans.invariant c.in_ok-tell.ensures

pub tell_all-returns : goal.tell_all-returns
tell_all-returns t c = nodes_done _ _ _ _ _ c.plans-test.false c.plans.invariant

pub tell_labelled-parts-preserved : goal.tell_labelled-parts-preserved
tell_labelled-parts-preserved t c = fields_goes _ _ _ _ _ _ _ c.parts-test.true c.part-item.is c.parts.invariant c.in_ok-tell.ensures

pub tell_labelled-returns : goal.tell_labelled-returns
tell_labelled-returns t c = fields_done _ _ _ _ _ c.parts-test.false c.parts.invariant

pub tell_join-returns : goal.tell_join-returns
tell_join-returns t c =
    tells_Join _ (join_view c.args.join.now) _ _ _ _ _ _ _ _ _ _ _ _ _ _ _ _ (view_join c.args.join.now) refl c.in_ok-put_join.ensures refl
    c.in_ok-tell.ensures (as_nodes _ _ _ _ _ c.slice.ensures c.in_ok-tell_all.ensures) c.in_ok-tell_key.ensures c.in_ok-put_scan.ensures refl refl c.tell-2.ensures
