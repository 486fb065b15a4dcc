use Rattle.kl_prim.specs.Arguments.{values_in}
use Rattle.kl_prim.proofs.MeaningLemmas.{answer_canonical}
use Rattle.kl_prim.proofs.primitives.apply_args.Goals as goal

pub returns-clause-canonical : goal.returns-clause-canonical
returns-clause-canonical c = answer_canonical c.args.code (values_in c.args.args) c.answer.result c.requires.canonical c.answer.ensures
