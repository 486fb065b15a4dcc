use Rattle.std.proofs.Common.{◌≡◌, drop}
use Rattle.kl_functions.specs.Known.{fields_in}
use Rattle.kl_functions.proofs.plain.labels_of.Given as goal

abbrev pub invariant-known : goal.invariant-known
invariant-known l = fields_in (drop l.known-index l.all) l.name ≡ fields_in l.all l.name
