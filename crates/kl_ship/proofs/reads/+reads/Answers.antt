use Rattle.kl_ship.proofs.Sources.{reads_branch, reads_other, reads_nothing}
use Rattle.kl_ship.proofs.reads.+reads.Goals as goal

pub reads-returns-then-reads_labelled : goal.reads-returns-then-reads_labelled
reads-returns-then-reads_labelled t c =
    reads_branch _ _ _ _ _ _ _ _ c.in-Case.is c.get-in-Case.ensures c.reads-in-Case.ensures c.if-reads.false c.slice-in-Case.ensures c.reads_labelled-in-Case.ensures c.if-reads_labelled.true

pub reads-returns-in-Some : goal.reads-returns-in-Some
reads-returns-in-Some t c =
    reads_other _ _ _ _ _ _ _ _ _ _ _ c.in-Case.is c.get-in-Case.ensures c.reads-in-Case.ensures c.if-reads.false c.slice-in-Case.ensures c.reads_labelled-in-Case.ensures c.if-reads_labelled.false
    c.in-Some.is c.get-in-Some.ensures c.reads-in-Some.ensures

pub reads-returns-in-None : goal.reads-returns-in-None
reads-returns-in-None t c =
    reads_nothing _ _ _ _ _ _ _ _ c.in-Case.is c.get-in-Case.ensures c.reads-in-Case.ensures c.if-reads.false c.slice-in-Case.ensures c.reads_labelled-in-Case.ensures c.if-reads_labelled.false c.in-None.is
