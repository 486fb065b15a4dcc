use Rattle.kl_prim.proofs.answers.complement.Goals as goal

pub returns : goal.returns
returns c = c.one_bool.ensures _
