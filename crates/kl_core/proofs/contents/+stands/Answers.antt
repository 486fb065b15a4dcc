use Rattle.std.proofs.Common.{◌≡◌, ◌+◌, arith, ◌∙◌}
use Rattle.kl_core.proofs.Holding.{FrontHolds, holds_first, holds_later, case_holds, other_holds, nothing_holds}
use Rattle.kl_core.proofs.contents.+stands.Goals as goal
use Rattle.kl_core.proofs.contents.+stands.Goals.{stands-then-stands, stands-else-stands}

pub stands-returns-then-stands_labelled : goal.stands-returns-then-stands_labelled
stands-returns-then-stands_labelled t c n e =
    let front : c.if-stands.value ≡ FrontHolds n c.in-Case.a c.in-Case.branches = elim c.if-stands.branch [
      | stands-then-stands w ↦ holds_first n _ _ _ _ _ c.get-in-Case.ensures (c.stands-in-Case.ensures n e) w.if-stands.true (w.value-is ∙ w.if-stands.true)
      | stands-else-stands w ↦ holds_later n _ _ _ _ _ _ _ c.get-in-Case.ensures (c.stands-in-Case.ensures n e) w.if-stands.false w.slice-else-stands.ensures (w.stands_labelled-else-stands.ensures (n + 1) (omega arith)) w.value-is
    ] in
    case_holds n _ _ _ _ _ c.in-Case.is front c.if-stands_labelled.true

pub stands-returns-in-None : goal.stands-returns-in-None
stands-returns-in-None t c n e =
    let front : c.if-stands.value ≡ FrontHolds n c.in-Case.a c.in-Case.branches = elim c.if-stands.branch [
      | stands-then-stands w ↦ holds_first n _ _ _ _ _ c.get-in-Case.ensures (c.stands-in-Case.ensures n e) w.if-stands.true (w.value-is ∙ w.if-stands.true)
      | stands-else-stands w ↦ holds_later n _ _ _ _ _ _ _ c.get-in-Case.ensures (c.stands-in-Case.ensures n e) w.if-stands.false w.slice-else-stands.ensures (w.stands_labelled-else-stands.ensures (n + 1) (omega arith)) w.value-is
    ] in
    nothing_holds n _ _ _ _ _ c.in-Case.is c.in-None.is front c.if-stands_labelled.false

pub stands-returns-in-Some : goal.stands-returns-in-Some
stands-returns-in-Some t c n e =
    let front : c.if-stands.value ≡ FrontHolds n c.in-Case.a c.in-Case.branches = elim c.if-stands.branch [
      | stands-then-stands w ↦ holds_first n _ _ _ _ _ c.get-in-Case.ensures (c.stands-in-Case.ensures n e) w.if-stands.true (w.value-is ∙ w.if-stands.true)
      | stands-else-stands w ↦ holds_later n _ _ _ _ _ _ _ c.get-in-Case.ensures (c.stands-in-Case.ensures n e) w.if-stands.false w.slice-else-stands.ensures (w.stands_labelled-else-stands.ensures (n + 1) (omega arith)) w.value-is
    ] in
    other_holds n _ _ _ _ _ _ _ _ c.in-Case.is c.in-Some.is front c.if-stands_labelled.false c.get-in-Some.ensures (c.stands-in-Some.ensures n e)
