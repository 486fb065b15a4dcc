use Rattle.kl_ask.proofs.Boxes.{box_step}
use Rattle.kl_eval.proofs.Scanning.{at_box}
use Rattle.kl_eval.proofs.scans.scan.Goals as goal

pub scan_box-requires-clause-can : goal.scan_box-requires-clause-can
scan_box-requires-clause-can g c = at_box _ _ _ _ _ c.requires.place c.index_mut.ensures.value c.requires.can

pub returns : goal.returns
returns g c = box_step _ _ _ _ _ _ c.requires.place c.index_mut.ensures.value c.scan_box.ensures
