use Rattle.kl_heads.proofs.TextReading.{finished_headed}
use Rattle.kl_heads.proofs.reader.Reader.finish.Goals as goal

pub invariant_of-self : goal.invariant_of-self
invariant_of-self c = finished_headed _ _ _ _ _ _ c.self.invariant _ c.finish.ensures
