use Rattle.cases.proofs.LowTerms.{low_Prim}
use Rattle.cases.proofs.terms.primitive.Goals as goal

pub returns : goal.returns
returns c = low_Prim _ _ _ c.in_ok-new.ensures c.requires
