use Rattle.kl_infer.proofs.Leaving.{when}
use Rattle.kl_infer.proofs.Concluding.{arrow_so, arrow_can}
use Rattle.kl_infer.proofs.typing.Typing.arrow.Goals as goal

pub make-requires-clause-can : goal.make-requires-clause-can
make-requires-clause-can c = arrow_can _ _ _ c.requires.from_there c.requires.to_there

pub returns : goal.returns
returns c = when _ _ c.make.result (λ i h. arrow_so _ _ i c.args.from c.args.to c.requires.fine c.requires.from_there c.requires.to_there h) c.make.ensures
