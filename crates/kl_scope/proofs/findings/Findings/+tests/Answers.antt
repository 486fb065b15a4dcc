use Rattle.std.proofs.Common.{◌∙◌}
use Rattle.kl_scope.proofs.FindingLemmas.{tests_more}
use Rattle.kl_scope.proofs.findings.Findings.+tests.Goals as goal

pub tests_all-fields-preserved : goal.tests_all-fields-preserved
tests_all-fields-preserved t c = tests_more c.fields.self c.tests.new.self c.args.fields.now c.fields.field-index c.field-item.result c.fields-test.true c.field-item.is c.tests.ensures ∙ c.fields.invariant
