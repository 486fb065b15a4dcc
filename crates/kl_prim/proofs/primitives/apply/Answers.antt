use Rattle.std.proofs.Common.{⊎_elim, arith}
use Rattle.kl_prim.proofs.MeaningLemmas.{meaning_takes}
use Rattle.kl_prim.proofs.TableLemmas.{takes_few}
use Rattle.kl_prim.proofs.primitives.apply.Goals as goal

pub unreachable-requires : goal.unreachable-requires
unreachable-requires c =
    ⊎_elim (λ one. omega (arith, one)) (λ two. omega (arith, two))
    (takes_few c.args.code _ (meaning_takes c.args.code c.args.args.now c.requires.fits))

pub unreachable-requires-in-len3-up : goal.unreachable-requires-in-len3-up
unreachable-requires-in-len3-up c =
    ⊎_elim (λ one. omega (arith, one)) (λ two. omega (arith, two))
    (takes_few c.args.code _ (meaning_takes c.args.code c.args.args.now c.requires.fits))
