use Rattle.std.proofs.Common.{FitsSigned, w64, rules}
use Rattle.std.proofs.lemmas.Int.{to_z-of_z}
use Rattle.kl_prim.proofs.TableLemmas.{answers_by}
use Rattle.kl_prim.proofs.answers.subtract.Goals as goal

pub returns : goal.returns
returns c =
    let m : FitsSigned w64 c.two_ints-m.result.0 = search rules in
    let n : FitsSigned w64 c.two_ints-m.result.1 = search rules in
    answers_by _ _ _ (c.two_ints-m.ensures _) (simp to_z-of_z at c.subtract.ensures)
