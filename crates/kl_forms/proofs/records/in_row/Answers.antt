use Rattle.kl_forms.proofs.Looking.{at_spot, behind_spot, end_there}
use Rattle.kl_forms.proofs.records.in_row.Goals as goal

pub returns-in-At : goal.returns-in-At
returns-in-At c = at_spot _ _ _ _ _ c.requires.fine c.spot.ensures c.in-At.is

pub at_end-requires-clause-there : goal.at_end-requires-clause-there
at_end-requires-clause-there c = end_there _ _ _ _ _ c.spot.ensures c.in-Behind.is

pub returns-in_ok-found-in-Behind : goal.returns-in_ok-found-in-Behind
returns-in_ok-found-in-Behind c = behind_spot _ _ _ _ _ _ _ c.spot.ensures c.in-Behind.is c.in_ok-found-in-Behind.ensures
