use Rattle.kl_core.proofs.Sizes.{nodes_rec, nodes_other, nodes_nothing}
use Rattle.kl_core.proofs.measure.+nodes.Goals as goal

pub nodes-returns-in-Rec : goal.nodes-returns-in-Rec
nodes-returns-in-Rec t c = nodes_rec _ _ _ _ _ c.in-Rec.is c.slice.ensures c.nodes_labelled.ensures c.saturating_add.ensures

pub nodes-returns-in-Some : goal.nodes-returns-in-Some
nodes-returns-in-Some t c =
    nodes_other _ _ _ _ _ _ _ _ _ _ _ _ _ _ c.in-Case.is c.get-in-Case.ensures c.slice-in-Case.ensures c.in-Some.is c.get-in-Some.ensures
    c.nodes-in-Case.ensures c.nodes_labelled-in-Case.ensures c.saturating_add-in-Case.ensures c.saturating_add-count.ensures c.nodes-in-Some.ensures c.saturating_add-in-Some.ensures

pub nodes-returns-in-None : goal.nodes-returns-in-None
nodes-returns-in-None t c =
    nodes_nothing _ _ _ _ _ _ _ _ _ _ c.in-Case.is c.get-in-Case.ensures c.slice-in-Case.ensures c.in-None.is
    c.nodes-in-Case.ensures c.nodes_labelled-in-Case.ensures c.saturating_add-in-Case.ensures c.saturating_add-count.ensures
