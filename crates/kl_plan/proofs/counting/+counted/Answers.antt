use Rattle.kl_plan.proofs.Amounts.{counted_case}
use Rattle.kl_plan.proofs.counting.+counted.Goals as goal

pub counted-returns-in-Case : goal.counted-returns-in-Case
counted-returns-in-Case t c =
    counted_case _ _ _ _ _ _ _ _ _ _ _ c.in-Case.is c.get-in-Case.ensures c.counted-subject.ensures c.slice-in-Case.ensures c.counted_labelled-branches.ensures
    c.counted_other.ensures c.saturating_add.ensures c.saturating_add-in-Case.ensures
