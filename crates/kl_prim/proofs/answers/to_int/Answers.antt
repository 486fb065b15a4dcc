use Rattle.kl_prim.proofs.TableLemmas.{answers_by}
use Rattle.kl_prim.proofs.answers.to_int.Goals as goal

pub returns : goal.returns
returns c = answers_by _ _ _ (c.one_text.ensures _) c.to_int.ensures
