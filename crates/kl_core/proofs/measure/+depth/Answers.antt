use Rattle.kl_core.proofs.Sizes.{depth_rec, depth_other, depth_nothing}
use Rattle.kl_core.proofs.measure.+depth.Goals as goal

pub depth-returns-in-Rec : goal.depth-returns-in-Rec
depth-returns-in-Rec t c = depth_rec _ _ _ _ _ c.in-Rec.is c.slice.ensures c.depth_labelled.ensures c.saturating_add.ensures

pub depth-returns-in-Some : goal.depth-returns-in-Some
depth-returns-in-Some t c =
    depth_other _ _ _ _ _ _ _ _ _ _ _ _ _ _ c.in-Case.is c.get-in-Case.ensures c.slice-in-Case.ensures c.in-Some.is c.get-in-Some.ensures
    c.depth-in-Case.ensures c.depth_labelled-in-Case.ensures c.max-most.ensures c.depth-in-Some.ensures c.max.ensures c.saturating_add-in-Some.ensures

pub depth-returns-in-None : goal.depth-returns-in-None
depth-returns-in-None t c =
    depth_nothing _ _ _ _ _ _ _ _ _ _ c.in-Case.is c.get-in-Case.ensures c.slice-in-Case.ensures c.in-None.is
    c.depth-in-Case.ensures c.depth_labelled-in-Case.ensures c.max-most.ensures c.saturating_add-in-None.ensures
