use Rattle.kl_prim.proofs.TableLemmas.{answers_by, reads_ints}
use Rattle.kl_prim.proofs.answers.sum.Goals as goal

pub returns : goal.returns
returns c = answers_by _ _ _ (reads_ints _ _ _ _ c.one_collection.ensures.form) c.sum.ensures
