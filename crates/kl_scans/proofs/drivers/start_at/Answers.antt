use Rattle.kl_ask.proofs.Boxes.{box_step}
use Rattle.kl_eval.proofs.Scanning.{at_box}
use Rattle.kl_scans.proofs.drivers.start_at.Goals as goal

pub start_boxed-requires : goal.start_boxed-requires
start_boxed-requires g c = at_box _ _ _ _ _ c.requires.place c.index_mut.ensures.value c.requires.can

pub returns : goal.returns
returns g c = box_step _ _ _ _ _ _ c.requires.place c.index_mut.ensures.value c.start_boxed.ensures
