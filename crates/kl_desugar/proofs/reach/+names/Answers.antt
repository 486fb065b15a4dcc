use Rattle.kl_scope.proofs.ArmLemmas.{behind_ok, behind_both}
use Rattle.kl_desugar.proofs.Naming.{rec_named, more_named, comp_named, if_named, let_named, case_named, chain_named}
use Rattle.kl_desugar.proofs.reach.+names.Goals as goal

pub names-returns-in-Rec : goal.names-returns-in-Rec
names-returns-in-Rec t c = rec_named _ _ _ _ _ _ c.in-Rec.is c.slice-in-Rec.ensures c.names_fields.ensures

pub names-returns-in-More : goal.names-returns-in-More
names-returns-in-More t c =
    behind_ok c.names_fields-written.result c.names_next.result c.names_fields-written.ensures c.names_next.ensures (more_named _ _ _ _ _ _ _ _ c.in-More.is c.slice-in-More.ensures c.get.ensures)

pub names-returns-in-Comp : goal.names-returns-in-Comp
names-returns-in-Comp t c =
    behind_ok c.names-head.result c.names_quals.result c.names-head.ensures c.names_quals.ensures (comp_named _ _ _ _ _ _ _ _ _ c.in-Comp.is c.get-in-Comp.ensures c.slice-in-Comp.ensures)

pub names-returns-in-If : goal.names-returns-in-If
names-returns-in-If t c =
    behind_ok c.names_next-chosen.result c.names_next-in-If.result (behind_both _ _ c.names-tested.result c.names_next-chosen.result c.names-tested.ensures c.names_next-chosen.ensures) c.names_next-in-If.ensures
    (λ h g. if_named _ _ _ _ _ _ _ _ _ _ _ c.in-If.is c.get-in-If.ensures c.get-in-If-2.ensures c.get-in-If-3.ensures h.0 h.1 g)

pub names-returns-in-Let : goal.names-returns-in-Let
names-returns-in-Let t c =
    behind_ok c.names_next-bound.result c.names_next-in-Let.result (behind_both _ _ c.pattern_names-matched.result c.names_next-bound.result c.pattern_names-matched.ensures c.names_next-bound.ensures) c.names_next-in-Let.ensures
    (λ h g. let_named _ _ _ _ _ _ _ _ _ _ c.in-Let.is c.get-in-Let.ensures c.get-in-Let-2.ensures h.0 h.1 g)

pub names-returns-in-Case : goal.names-returns-in-Case
names-returns-in-Case t c =
    behind_ok c.names_branches-branched.result c.names_rest.result (behind_both _ _ c.names-looked.result c.names_branches-branched.result c.names-looked.ensures c.names_branches-branched.ensures) c.names_rest.ensures
    (λ h g. case_named _ _ _ _ _ _ _ _ _ _ c.in-Case.is c.get-in-Case.ensures c.slice-in-Case.ensures h.0 h.1 g)

pub names-returns-in-Chain : goal.names-returns-in-Chain
names-returns-in-Chain t c =
    behind_ok c.names-begun.result c.names_steps.result c.names-begun.ensures c.names_steps.ensures (chain_named _ _ _ _ _ _ _ _ c.in-Chain.is c.get-in-Chain.ensures c.slice-in-Chain.ensures)
