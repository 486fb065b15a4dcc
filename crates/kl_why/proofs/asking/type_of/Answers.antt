use Rattle.kl_infer.proofs.Principal.{good_schemes}
use Rattle.kl_why.proofs.asking.type_of.Goals as goal

pub last_text-requires : goal.last_text-requires
last_text-requires c = rw c.slice.ensures (good_schemes _ _ _ c.in-Ok-infer.ensures.typed.schemes)
