use Rattle.std.proofs.Common.{refl, arith}
use Rattle.kl_sources.proofs.EndLemmas.{too_many, listed_all}
use Rattle.kl_sources.proofs.walking.attach_listed.Goals as goal

pub returns-then-sources : goal.returns-then-sources
returns-then-sources g c = too_many _ _ _ (omega arith) _ refl refl

pub returns-in-Ok : goal.returns-in-Ok
returns-in-Ok g c = listed_all _ _ _ _ c.list.result c.in-Ok.ensures c.list.ensures
