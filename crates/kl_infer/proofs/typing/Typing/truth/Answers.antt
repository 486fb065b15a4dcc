use Rattle.std.proofs.Common.{sym, subst}
use Rattle.kl_type.specs.Ground.{IsGround}
use Rattle.kl_type.proofs.GroundLemmas.{ground-Bool}
use Rattle.kl_infer.proofs.Leaving.{when, truth_so}
use Rattle.kl_infer.proofs.typing.Typing.truth.Goals as goal

pub make-requires-clause-can : goal.make-requires-clause-can
make-requires-clause-can c = subst IsGround (sym ground-Bool) tt

pub returns : goal.returns
returns c = when _ _ c.make.result (λ i h. truth_so _ _ i _ ground-Bool h) c.make.ensures
