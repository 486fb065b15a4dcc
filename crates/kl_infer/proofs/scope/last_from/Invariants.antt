use Rattle.std.proofs.Common.{◌≡◌, drop}
use Rattle.kl_infer.specs.Names.{last_from}
use Rattle.kl_infer.proofs.scope.last_from.Given as goal

abbrev pub invariant-block : goal.invariant-block
invariant-block l = last_from l.name (drop l.i l.block) l.found ≡ last_from l.name l.block l.fn.outside
