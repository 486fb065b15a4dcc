use Rattle.cases.proofs.LowTerms.{low_Case}
use Rattle.cases.proofs.terms.case.Goals as goal

pub returns : goal.returns
returns c = low_Case _ _ _ _ c.in_ok-new.ensures c.requires.subject c.requires.branches c.requires.other
