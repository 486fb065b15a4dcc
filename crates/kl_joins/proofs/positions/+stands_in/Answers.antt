use Rattle.std.proofs.Common.{◌≡◌, ◌+◌, arith, ◌∙◌}
use Rattle.kl_core.proofs.Holding.{FrontHolds, holds_first, holds_later, case_holds, other_holds, nothing_holds}
use Rattle.kl_joins.proofs.positions.+stands_in.Goals as goal
use Rattle.kl_joins.proofs.positions.+stands_in.Goals.{stands_in-then-stands_in, stands_in-else-stands_in}

pub stands_in-returns-then-stands_labelled : goal.stands_in-returns-then-stands_labelled
stands_in-returns-then-stands_labelled t c n e =
    let front : c.if-stands_in.value ≡ FrontHolds n c.in-Case.a c.in-Case.branches = elim c.if-stands_in.branch [
      | stands_in-then-stands_in w ↦ holds_first n _ _ _ _ _ c.get-in-Case.ensures (c.stands_in-in-Case.ensures n e) w.if-stands_in.true
          (w.value-is ∙ w.if-stands_in.true)
      | stands_in-else-stands_in w ↦ holds_later n _ _ _ _ _ _ _ c.get-in-Case.ensures (c.stands_in-in-Case.ensures n e)
          w.if-stands_in.false w.slice-else-stands_in.ensures (w.stands_labelled-else-stands_in.ensures (n + 1) (omega arith)) w.value-is
    ] in
    case_holds n _ _ _ _ _ c.in-Case.is front c.if-stands_labelled.true

pub stands_in-returns-in-None : goal.stands_in-returns-in-None
stands_in-returns-in-None t c n e =
    let front : c.if-stands_in.value ≡ FrontHolds n c.in-Case.a c.in-Case.branches = elim c.if-stands_in.branch [
      | stands_in-then-stands_in w ↦ holds_first n _ _ _ _ _ c.get-in-Case.ensures (c.stands_in-in-Case.ensures n e) w.if-stands_in.true
          (w.value-is ∙ w.if-stands_in.true)
      | stands_in-else-stands_in w ↦ holds_later n _ _ _ _ _ _ _ c.get-in-Case.ensures (c.stands_in-in-Case.ensures n e)
          w.if-stands_in.false w.slice-else-stands_in.ensures (w.stands_labelled-else-stands_in.ensures (n + 1) (omega arith)) w.value-is
    ] in
    nothing_holds n _ _ _ _ _ c.in-Case.is c.in-None.is front c.if-stands_labelled.false

pub stands_in-returns-in-Some : goal.stands_in-returns-in-Some
stands_in-returns-in-Some t c n e =
    let front : c.if-stands_in.value ≡ FrontHolds n c.in-Case.a c.in-Case.branches = elim c.if-stands_in.branch [
      | stands_in-then-stands_in w ↦ holds_first n _ _ _ _ _ c.get-in-Case.ensures (c.stands_in-in-Case.ensures n e) w.if-stands_in.true
          (w.value-is ∙ w.if-stands_in.true)
      | stands_in-else-stands_in w ↦ holds_later n _ _ _ _ _ _ _ c.get-in-Case.ensures (c.stands_in-in-Case.ensures n e)
          w.if-stands_in.false w.slice-else-stands_in.ensures (w.stands_labelled-else-stands_in.ensures (n + 1) (omega arith)) w.value-is
    ] in
    other_holds n _ _ _ _ _ _ _ _ c.in-Case.is c.in-Some.is front c.if-stands_labelled.false c.get-in-Some.ensures
    (c.stands_in-in-Some.ensures n e)
