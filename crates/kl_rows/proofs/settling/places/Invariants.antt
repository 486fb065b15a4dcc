use Rattle.kl_rows.specs.Schemes.{CountsTo}
use Rattle.kl_rows.proofs.settling.places.Given as goal

abbrev pub invariant-places : goal.invariant-places
invariant-places l = CountsTo l.i l.places.items
