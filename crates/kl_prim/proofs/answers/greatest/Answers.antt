use Rattle.kl_prim.proofs.TableLemmas.{answers_by}
use Rattle.kl_prim.proofs.answers.greatest.Goals as goal

pub returns : goal.returns
returns c = answers_by _ _ _ (c.one_collection-kind.ensures.reads _) c.greatest.ensures
