use Rattle.std.proofs.Common.{◌≡◌, ◌++◌, drop, map}
use Rattle.kl_infer.specs.Names.{labelled}
use Rattle.kl_infer.proofs.patterns.labelled.Given as goal

abbrev pub invariant-fields : goal.invariant-fields
invariant-fields g l = l.all.items ++ labelled (map (λ f. f.0.text) (drop l.i l.fields)) (drop l.i l.types) ≡ labelled (map (λ f. f.0.text) l.fields) l.types
