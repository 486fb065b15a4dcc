use Rattle.std.proofs.Common.{◌≡◌, drop}
use Rattle.kl_meaning.specs.Codes.{IsCalled}
use Rattle.kl_infer.specs.Names.{IfCode, meant_over, meant_of, meant}
use Rattle.kl_infer.proofs.scope.stands_for.Given as goal

abbrev pub invariant-defs : goal.invariant-defs
invariant-defs l =
    (meant_over l.name (drop l.i l.defs) (drop l.i l.schemes) (meant_of l.found) ≡ meant l.known l.name) × IfCode (meant_of l.found) IsCalled
