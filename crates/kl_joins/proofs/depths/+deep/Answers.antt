use Rattle.kl_joins.proofs.Binding.{case_deep}
use Rattle.kl_joins.proofs.depths.+deep.Goals as goal

pub deep-returns-in-Case : goal.deep-returns-in-Case
deep-returns-in-Case t c =
    case_deep _ _ _ _ _ _ _ _ _ _ _ _ c.in-Case.is c.get-in-Case.ensures c.deep-subject.ensures c.slice-in-Case.ensures
    c.deep_labelled-branches.ensures c.deep_other.ensures c.max.ensures c.saturating_add.ensures c.max-in-Case.ensures
