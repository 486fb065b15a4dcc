use Rattle.kl_eval.proofs.Emitting.{prim_comes}
use Rattle.kl_eval.proofs.Forms.{sense_prim}
use Rattle.kl_eval.proofs.comparing.compared.Goals as goal

pub both_compared-requires : goal.both_compared-requires
both_compared-requires c = (c.requires.0, sense_prim _ _ _ _ _ c.in-Prim.is c.slice.ensures _ c.requires.1)

pub returns-in-Prim : goal.returns-in-Prim
returns-in-Prim c = prim_comes _ _ _ _ _ c.in-Prim.is c.slice.ensures _ c.both_compared.ensures
