use Rattle.std.proofs.Common.{◌≤◌, length, subst, sym}
use Rattle.kl_tools.proofs.Shortness.{catalogue_short}
use Rattle.kl_tools.proofs.texts.gen_texts.Goals as goal

pub returns-clause-short : goal.returns-clause-short
returns-clause-short c = subst (λ bs. length bs ≤ 65536) (sym c.in_ok-catalogue.ensures) (catalogue_short c.args.seed c.args.size c.ranges.seed.fits c.ranges.size.fits)
