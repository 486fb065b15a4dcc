use Rattle.kl_ask.proofs.Boxes.{box_step}
use Rattle.kl_sources.proofs.walking.attach.Goals as goal

pub returns : goal.returns
returns g c = box_step _ _ _ _ _ _ c.requires.place c.index_mut.ensures.value c.attach_boxed.ensures
