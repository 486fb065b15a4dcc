use Rattle.kl_scope.proofs.ArmLemmas.{behind_ok, behind_both}
use Rattle.kl_functions.specs.Occurrences.{names_of}
use Rattle.kl_functions.proofs.Occurring.{rec_found, call_found, more_found, comp_ok, if_found, let_found, case_found, chain_found}
use Rattle.kl_functions.proofs.occurrences.Parameter.+places.Goals as goal

pub expr-returns-in-Call : goal.expr-returns-in-Call
expr-returns-in-Call t c = behind_ok c.head-called.result c.handed.result c.head-called.ensures c.handed.ensures (call_found _ _ _ _ _ _ _ _ _ _ _ c.in-Call.is c.slice-args.ensures c.slice-args.ensures)

pub expr-returns-in-Rec : goal.expr-returns-in-Rec
expr-returns-in-Rec t c = rec_found _ _ _ _ _ _ _ _ _ c.in-Rec.is c.slice.ensures c.fields.ensures

pub expr-returns-in-More : goal.expr-returns-in-More
expr-returns-in-More t c = behind_ok c.fields-written.result c.next.result c.fields-written.ensures c.next.ensures (more_found _ _ _ _ _ _ _ _ _ _ _ c.in-More.is c.slice-in-More.ensures c.get.ensures)

pub expr-returns-in-Comp : goal.expr-returns-in-Comp
expr-returns-in-Comp t c =
    comp_ok _ _ (λ v. names_of v.items) c.quals-behind.result c.within.result _ _ _ _ _ _ _ _ _ _ c.in-Comp.is c.get-in-Comp.ensures c.slice-in-Comp.ensures c.quals-behind.ensures.behind c.quals-behind.ensures.found c.within.ensures

pub expr-returns-in-If : goal.expr-returns-in-If
expr-returns-in-If t c =
    behind_ok c.next-chosen.result c.next-in-If.result (behind_both _ _ c.expr-tested.result c.next-chosen.result c.expr-tested.ensures c.next-chosen.ensures) c.next-in-If.ensures
    (λ h k. if_found _ _ _ _ _ _ _ _ _ _ _ _ _ _ c.in-If.is c.get-in-If.ensures c.get-in-If-2.ensures c.get-in-If-3.ensures h.0 h.1 k)

pub expr-returns-in-Let : goal.expr-returns-in-Let
expr-returns-in-Let t c =
    behind_ok c.expr-bound.result c.body.result c.expr-bound.ensures c.body.ensures (let_found _ _ _ _ _ _ _ _ _ _ _ _ c.in-Let.is c.get-in-Let.ensures c.get-in-Let-2.ensures)

pub expr-returns-in-Case : goal.expr-returns-in-Case
expr-returns-in-Case t c =
    behind_ok c.branches-branched.result c.rest.result (behind_both _ _ c.expr-looked.result c.branches-branched.result c.expr-looked.ensures c.branches-branched.ensures) c.rest.ensures
    (λ h k. case_found _ _ _ _ _ _ _ _ _ _ _ _ _ c.in-Case.is c.get-in-Case.ensures c.slice-in-Case.ensures h.0 h.1 k)

pub expr-returns-in-Chain : goal.expr-returns-in-Chain
expr-returns-in-Chain t c = behind_ok c.expr-begun.result c.steps.result c.expr-begun.ensures c.steps.ensures (chain_found _ _ _ _ _ _ _ _ _ _ _ c.in-Chain.is c.get-in-Chain.ensures c.slice-in-Chain.ensures)
