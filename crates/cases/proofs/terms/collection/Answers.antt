use Rattle.cases.proofs.LowTerms.{low_Make}
use Rattle.cases.proofs.terms.collection.Goals as goal

pub returns : goal.returns
returns c = low_Make _ _ _ c.in_ok-new.ensures c.requires
