use Rattle.std.proofs.Common.{FitsSigned, w64, rules}
use Rattle.std.proofs.lemmas.Int.{to_z-of_z}
use Rattle.kl_prim.proofs.TableLemmas.{answers_by}
use Rattle.kl_prim.proofs.answers.to_text.Goals as goal

pub returns : goal.returns
returns c =
    let n : FitsSigned w64 c.one_int.result = search rules in
    answers_by _ _ _ (c.one_int.ensures _) (simp to_z-of_z at c.to_text.ensures)
