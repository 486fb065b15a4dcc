use Rattle.kl_ship.proofs.Deciding.{yes}
use Rattle.kl_ship.proofs.FullParts.{if_ok, ok_is, part_not, same_rec, same_case, other_full, other_none, last_of_three}
use Rattle.kl_ship.proofs.full.+fully_shipped.Goals as goal

pub fully_shipped-returns-then-not-branch-2 : goal.fully_shipped-returns-then-not-branch-2
fully_shipped-returns-then-not-branch-2 t c =
    part_not c.in_ok-are_full_labelled-in-Case.field-0 (λ q. ((same_case c.args.sources.now _ _ _ _ _ _ c.in-Case.is c.get-in-Case.ensures c.slice-in-Case.ensures).0 q).1)
    (ok_is _ _ c.in_ok-are_full_labelled-in-Case.was c.are_full_labelled-in-Case.ensures) c.if-not-branch-2.true

pub fully_shipped-returns-in-Rec : goal.fully_shipped-returns-in-Rec
fully_shipped-returns-in-Rec t c = if_ok c.are_full_labelled.result (same_rec c.args.sources.now _ _ _ c.in-Rec.is c.slice.ensures) c.are_full_labelled.ensures

pub fully_shipped-returns-in-Some : goal.fully_shipped-returns-in-Some
fully_shipped-returns-in-Some t c =
    last_of_three _ _ c.fully_shipped-in-Some.result (same_case c.args.sources.now _ _ _ _ _ _ c.in-Case.is c.get-in-Case.ensures c.slice-in-Case.ensures)
    (ok_is _ _ c.in_ok-fully_shipped-in-Case.was c.fully_shipped-in-Case.ensures) c.if-not-branch.false (ok_is _ _ c.in_ok-are_full_labelled-in-Case.was c.are_full_labelled-in-Case.ensures) c.if-not-branch-2.false
    (if_ok c.fully_shipped-in-Some.result (other_full c.args.sources.now _ _ _ c.in-Some.is c.get-in-Some.ensures) c.fully_shipped-in-Some.ensures)

pub fully_shipped-returns-in-None : goal.fully_shipped-returns-in-None
fully_shipped-returns-in-None t c =
    yes ((same_case c.args.sources.now _ _ _ _ _ _ c.in-Case.is c.get-in-Case.ensures c.slice-in-Case.ensures).1
    ((ok_is _ _ c.in_ok-fully_shipped-in-Case.was c.fully_shipped-in-Case.ensures).0 c.if-not-branch.false, (ok_is _ _ c.in_ok-are_full_labelled-in-Case.was c.are_full_labelled-in-Case.ensures).0 c.if-not-branch-2.false, other_none c.args.sources.now _ c.in-None.is))
