use Rattle.kl_joins.proofs.Reading.{case_reads, scan_found}
use Rattle.kl_joins.proofs.frees.+reads.Goals as goal

pub reads-returns-in-Case : goal.reads-returns-in-Case
reads-returns-in-Case t c =
    case_reads _ _ _ _ _ _ _ _ _ c.in-Case.is c.get-in-Case.ensures c.reads-subject.ensures c.slice-in-Case.ensures
    c.reads_labelled-branch.ensures c.reads_other.ensures

pub reads-returns-in-Scan-2 : goal.reads-returns-in-Scan-2
reads-returns-in-Scan-2 t c = scan_found _ c.in-Scan.is
