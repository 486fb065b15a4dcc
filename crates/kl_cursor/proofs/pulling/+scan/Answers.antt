use Rattle.kl_cursor.proofs.PullCode.{case_found, case_other, case_none, scan_found}
use Rattle.kl_cursor.proofs.pulling.+scan.Goals as goal

pub has_scan-returns-then-has_scan_labelled : goal.has_scan-returns-then-has_scan_labelled
has_scan-returns-then-has_scan_labelled t c =
    case_found _ _ c.get-in-Case.result.now _ c.slice-in-Case.result.now _ _ _ c.in-Case.is c.get-in-Case.ensures c.has_scan-in-Case.ensures c.if-has_scan.false c.slice-in-Case.ensures c.has_scan_labelled-in-Case.ensures c.if-has_scan_labelled.true

pub has_scan-returns-in-Some : goal.has_scan-returns-in-Some
has_scan-returns-in-Some t c =
    case_other _ _ c.get-in-Case.result.now _ c.slice-in-Case.result.now _ _ _ c.in-Case.is c.get-in-Case.ensures c.has_scan-in-Case.ensures c.if-has_scan.false c.slice-in-Case.ensures c.has_scan_labelled-in-Case.ensures
    _ c.get-in-Some.result.now _ c.if-has_scan_labelled.false c.in-Some.is c.get-in-Some.ensures c.has_scan-in-Some.ensures

pub has_scan-returns-in-None : goal.has_scan-returns-in-None
has_scan-returns-in-None t c =
    case_none _ _ c.get-in-Case.result.now _ c.slice-in-Case.result.now _ _ _ c.in-Case.is c.get-in-Case.ensures c.has_scan-in-Case.ensures c.if-has_scan.false c.slice-in-Case.ensures c.has_scan_labelled-in-Case.ensures c.if-has_scan_labelled.false c.in-None.is

pub has_scan-returns-in-Scan-2 : goal.has_scan-returns-in-Scan-2
has_scan-returns-in-Scan-2 t c = scan_found _ c.in-Scan.is
