use Rattle.kl_prim.proofs.TableLemmas.{answers_by}
use Rattle.kl_prim.proofs.answers.join.Goals as goal

pub returns : goal.returns
returns c = answers_by _ _ _ (c.two_texts.ensures _) c.join.ensures
