use Rattle.std.proofs.Common.{◌≡◌, false, take}
use Rattle.std.specs.List.{list_any}
use Rattle.kl_tidy.specs.Naming.{is_one}
use Rattle.kl_tidy.proofs.naming.is_taken.Given as goal

abbrev pub invariant-loop-taken : goal.invariant-loop-taken
invariant-loop-taken l = list_any (is_one l.name) (take l.taken-index l.names) ≡ false
