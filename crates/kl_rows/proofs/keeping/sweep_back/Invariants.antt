use Rattle.kl_rows.specs.Keeping.{Grows}
use Rattle.kl_rows.proofs.keeping.sweep_back.Given as goal

abbrev pub invariant-back : goal.invariant-back
invariant-back l = Grows l.initial.kept.items l.kept.items
