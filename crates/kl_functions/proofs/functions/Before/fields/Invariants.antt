use Rattle.std.proofs.Common.{◌≡◌, drop}
use Rattle.kl_functions.specs.Known.{fields_at}
use Rattle.kl_functions.proofs.functions.Before.fields.Given as goal

abbrev pub invariant-known : goal.invariant-known
invariant-known l = fields_at (drop l.known-index l.all) l.found l.name ≡ fields_at l.all l.initial.found l.name
