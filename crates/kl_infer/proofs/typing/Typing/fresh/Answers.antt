use Rattle.kl_infer.proofs.Leaving.{when, fresh_so}
use Rattle.kl_infer.proofs.typing.Typing.fresh.Goals as goal

pub returns : goal.returns
returns c = when _ _ c.fresh_type.result (λ i h. fresh_so _ _ i c.requires h) c.fresh_type.ensures
