use Rattle.std.proofs.Common.{◌≡◌, drop}
use Rattle.kl_base.specs.Fields.{field}
use Rattle.kl_ho.proofs.table.given.Given as goal

abbrev pub invariant-loop-pair : goal.invariant-loop-pair
invariant-loop-pair l = field l.name (drop l.pair-index l.funs) ≡ field l.name l.funs
