use Rattle.std.proofs.Common.{◌≡◌, ◌++◌, drop}
use Rattle.kl_scope.specs.Senses.{behind_each}
use Rattle.kl_syntax.specs.View.{patterns_view}
use Rattle.kl_desugar.specs.Reached.{patterns_names}
use Rattle.kl_desugar.proofs.reach.+pattern.Given as goal

abbrev pub invariant-patterns_names-fields : goal.invariant-patterns_names-fields
invariant-patterns_names-fields l = behind_each l.words.items ++ patterns_names (patterns_view (drop l.field-index l.fields)) ≡ behind_each l.initial.words.items ++ patterns_names (patterns_view l.fields)
