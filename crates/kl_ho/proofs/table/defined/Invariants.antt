use Rattle.std.proofs.Common.{◌≡◌, drop}
use Rattle.kl_ho.specs.Growing.{highers_in}
use Rattle.kl_ho.proofs.table.defined.Given as goal

abbrev pub invariant-loop-pair : goal.invariant-loop-pair
invariant-loop-pair l = highers_in (drop l.pair-index l.parts) l.name ≡ highers_in l.parts l.name
