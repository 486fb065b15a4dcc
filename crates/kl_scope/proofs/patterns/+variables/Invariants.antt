use Rattle.std.proofs.Common.{◌≡◌, ◌++◌, drop}
use Rattle.kl_syntax.specs.View.{patterns_view}
use Rattle.kl_scope.specs.Patterns.{variables_all}
use Rattle.kl_scope.specs.Senses.{behind_each}
use Rattle.kl_scope.proofs.patterns.+variables.Given as goal

abbrev pub invariant-variables_all-fields : goal.invariant-variables_all-fields
invariant-variables_all-fields l = behind_each l.words.items ++ variables_all (patterns_view (drop l.field-index l.fields)) ≡ behind_each l.initial.words.items ++ variables_all (patterns_view l.fields)
