use Rattle.std.proofs.Common.{◌≡◌, drop}
use Rattle.kl_scope.proofs.names.Names.leave.Given as goal

abbrev pub invariant-levels : goal.invariant-levels
invariant-levels l = l.self ≡ record l.initial.self { variables = drop l.counter l.initial.self.variables }
