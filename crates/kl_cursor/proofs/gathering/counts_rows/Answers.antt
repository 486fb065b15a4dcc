use Rattle.kl_cursor.proofs.CountedRows.{can_count, is_counted}
use Rattle.kl_cursor.proofs.gathering.counts_rows.Goals as goal

pub repeats_none-requires-clause-ready : goal.repeats_none-requires-clause-ready
repeats_none-requires-clause-ready g c = (can_count _ _ _ c.in-Scan.is c.requires).1

pub repeats_none-requires-clause-scan : goal.repeats_none-requires-clause-scan
repeats_none-requires-clause-scan g c = (can_count _ _ _ c.in-Scan.is c.requires).0

pub returns-then-code-eq-COUNT-clause-yes : goal.returns-then-code-eq-COUNT-clause-yes
returns-then-code-eq-COUNT-clause-yes g c e = (c.if-code-eq-COUNT.true, c.in-Scan.scan, c.in-Scan.is, c.repeats_none.ensures.yes e)

pub returns-then-code-eq-COUNT-clause-no : goal.returns-then-code-eq-COUNT-clause-no
returns-then-code-eq-COUNT-clause-no g c h = c.repeats_none.ensures.no (is_counted _ _ _ _ c.in-Scan.is h)
