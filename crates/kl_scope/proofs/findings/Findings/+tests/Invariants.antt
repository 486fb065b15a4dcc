use Rattle.std.proofs.Common.{◌≡◌, map, drop}
use Rattle.kl_syntax.specs.View.{patterns_view}
use Rattle.kl_scope.specs.Findings.{may_fail}
use Rattle.kl_scope.specs.Gathering.{gathered}
use Rattle.kl_scope.specs.Patterns.{tests_all}
use Rattle.kl_scope.proofs.findings.Findings.+tests.Given as goal

abbrev pub invariant-tests_all-fields : goal.invariant-tests_all-fields
invariant-tests_all-fields l = gathered l.self (map may_fail (tests_all (patterns_view (drop l.field-index l.fields)))) ≡ gathered l.initial.self (map may_fail (tests_all (patterns_view l.fields)))
