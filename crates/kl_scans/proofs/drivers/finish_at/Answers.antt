use Rattle.std.proofs.Common.{IsSome}
use Rattle.kl_ask.proofs.Boxes.{box_step}
use Rattle.kl_eval.proofs.Scanning.{at_box}
use Rattle.kl_scans.proofs.drivers.finish_at.Goals as goal

pub finish_boxed-requires : goal.finish_boxed-requires
finish_boxed-requires g c = at_box _ (λ s. IsSome (s.cursors c.args.cursor)) _ _ _ c.requires.place c.index_mut.ensures.value c.requires.is_open

pub returns : goal.returns
returns g c = box_step _ _ _ _ _ _ c.requires.place c.index_mut.ensures.value c.finish_boxed.ensures
