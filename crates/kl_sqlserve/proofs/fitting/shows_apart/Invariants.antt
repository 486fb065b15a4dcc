use Rattle.std.proofs.Common.{◌≡◌, drop}
use Rattle.kl_sqlserve.specs.Fitting.{shows_apart}
use Rattle.kl_sqlserve.proofs.fitting.shows_apart.Given as goal

abbrev pub invariant-columns : goal.invariant-columns
invariant-columns l = shows_apart (drop l.number l.columns) ≡ shows_apart l.columns
