use Rattle.std.proofs.Common.{◌≡◌, ◌∙◌}
use Rattle.kl_core.proofs.Holding.{FrontTotal, front_yes, front_no, case_not, case_other, case_nothing}
use Rattle.kl_core.proofs.contents.+is_total.Goals as goal
use Rattle.kl_core.proofs.contents.+is_total.Goals.{is_total-then-is_total, is_total-else-is_total}

pub is_total-returns-else-are_total_labelled : goal.is_total-returns-else-are_total_labelled
is_total-returns-else-are_total_labelled t c =
    let front : c.if-is_total.value ≡ FrontTotal c.in-Case.a c.in-Case.branches = elim c.if-is_total.branch [
      | is_total-then-is_total w ↦ front_yes _ _ _ _ _ _ _ c.get-in-Case.ensures c.is_total-in-Case.ensures w.if-is_total.true w.slice-then-is_total.ensures w.are_total_labelled-then-is_total.ensures w.value-is
      | is_total-else-is_total w ↦ front_no _ _ _ _ _ c.get-in-Case.ensures c.is_total-in-Case.ensures w.if-is_total.false (w.value-is ∙ w.if-is_total.false)
    ] in
    case_not _ _ _ _ _ c.in-Case.is front c.if-are_total_labelled.false

pub is_total-returns-in-None : goal.is_total-returns-in-None
is_total-returns-in-None t c =
    let front : c.if-is_total.value ≡ FrontTotal c.in-Case.a c.in-Case.branches = elim c.if-is_total.branch [
      | is_total-then-is_total w ↦ front_yes _ _ _ _ _ _ _ c.get-in-Case.ensures c.is_total-in-Case.ensures w.if-is_total.true w.slice-then-is_total.ensures w.are_total_labelled-then-is_total.ensures w.value-is
      | is_total-else-is_total w ↦ front_no _ _ _ _ _ c.get-in-Case.ensures c.is_total-in-Case.ensures w.if-is_total.false (w.value-is ∙ w.if-is_total.false)
    ] in
    case_nothing _ _ _ _ _ c.in-Case.is c.in-None.is front c.if-are_total_labelled.true

pub is_total-returns-in-Some : goal.is_total-returns-in-Some
is_total-returns-in-Some t c =
    let front : c.if-is_total.value ≡ FrontTotal c.in-Case.a c.in-Case.branches = elim c.if-is_total.branch [
      | is_total-then-is_total w ↦ front_yes _ _ _ _ _ _ _ c.get-in-Case.ensures c.is_total-in-Case.ensures w.if-is_total.true w.slice-then-is_total.ensures w.are_total_labelled-then-is_total.ensures w.value-is
      | is_total-else-is_total w ↦ front_no _ _ _ _ _ c.get-in-Case.ensures c.is_total-in-Case.ensures w.if-is_total.false (w.value-is ∙ w.if-is_total.false)
    ] in
    case_other _ _ _ _ _ _ _ _ c.in-Case.is c.in-Some.is front c.if-are_total_labelled.true c.get-in-Some.ensures c.is_total-in-Some.ensures
