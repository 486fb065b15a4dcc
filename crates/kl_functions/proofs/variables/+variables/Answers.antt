use Rattle.kl_functions.proofs.Naming.{record_texts, next_texts}
use Rattle.kl_functions.proofs.variables.+variables.Goals as goal

pub variables-returns-in_ok-variables_all-in-Rec : goal.variables-returns-in_ok-variables_all-in-Rec
variables-returns-in_ok-variables_all-in-Rec t c =
    record_texts c.rest_variable.result _ _ _ _ _ _ _ c.in-Rec.is c.slice.ensures c.in_ok-variables_all-in-Rec.ensures c.rest_variable.ensures

pub variables_all-fields-preserved : goal.variables_all-fields-preserved
variables_all-fields-preserved t c = next_texts c.args.fields.now c.fields.field-index c.field-item.result _ _ _ c.fields-test.true c.field-item.is c.fields.invariant c.in_ok-variables.ensures
