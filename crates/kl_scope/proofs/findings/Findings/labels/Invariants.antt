use Rattle.std.proofs.Common.{◌≡◌, map, take}
use Rattle.kl_scope.specs.Senses.{behind_each}
use Rattle.kl_scope.proofs.findings.Findings.labels.Given as goal

abbrev pub invariant-fields : goal.invariant-fields
invariant-fields g l = behind_each l.words.items ≡ map (λ f. f.0) (take l.field-index l.fields)
