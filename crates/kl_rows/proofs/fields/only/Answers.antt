use Rattle.kl_rows.proofs.fields.only.Goals as goal

pub find_in-requires : goal.find_in-requires
find_in-requires c = c.loop-pair.invariant.0
