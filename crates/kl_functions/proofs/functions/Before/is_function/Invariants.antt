use Rattle.std.proofs.Common.{◌≡◌, drop}
use Rattle.kl_functions.specs.Known.{function_at}
use Rattle.kl_functions.proofs.functions.Before.is_function.Given as goal

abbrev pub invariant-known : goal.invariant-known
invariant-known l = function_at (drop l.known-index l.all) l.found l.name ≡ function_at l.all l.initial.found l.name
