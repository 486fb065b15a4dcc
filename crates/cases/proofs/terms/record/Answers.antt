use Rattle.cases.proofs.LowTerms.{low_Rec}
use Rattle.cases.proofs.terms.record.Goals as goal

pub returns : goal.returns
returns c = low_Rec _ _ c.in_ok-new.ensures c.requires
