use Rattle.kl_engine.proofs.DoneLemmas.{listed, untyped_types}
use Rattle.kl_infer.proofs.Principal.{good_schemes}
use Rattle.kl_engine.proofs.types.list_types.Goals as goal

pub list-requires-clause-schemes : goal.list-requires-clause-schemes
list-requires-clause-schemes g c = good_schemes _ _ _ c.in-Ok.ensures.infers.schemes

pub returns-in-Ok : goal.returns-in-Ok
returns-in-Ok g c = λ marks files ds. listed _ marks _ _ files ds _ _ _ _ c.in-Ok.ensures c.list.ensures

pub returns-in-Err : goal.returns-in-Err
returns-in-Err g c = λ marks files ds. untyped_types _ marks _ _ files ds _ _ c.in-Err.ensures
