use Rattle.std.proofs.Common.{[], take}
use Rattle.kl_functions.specs.Known.{AreKnown}
use Rattle.kl_functions.proofs.functions.known_in.Given as goal

abbrev pub invariant-defs : goal.invariant-defs
invariant-defs l = AreKnown l.sources [] l.all.items (take l.i l.defs)
