use Rattle.std.proofs.Common.{refl}
use Rattle.kl_eval.specs.declared.stop.EvalStop.TheVariants as stop
use Rattle.kl_cursor.specs.Steps.{Partly}
use Rattle.kl_engine.proofs.TermLemmas.{stop_scanned, value_failed, value_given, value_lost, value_past_end, value_scanned}
use Rattle.kl_engine.proofs.run.answer_value.Goals as goal

pub value_of-requires : goal.value_of-requires
value_of-requires g c = rw c.new-env.ensures.items c.requires

pub returns-in-Ok-clause-prints : goal.returns-in-Ok-clause-prints
returns-in-Ok-clause-prints g c =
    λ files ks ss marks t runs. value_given ks ss marks t _ _ _ _ files runs c.in-Ok.value _ _ _ (rw c.new-env.ensures.items at c.in-Ok.ensures.value) (rw c.cut.ensures at c.print_value.ensures)

pub returns-in-Ok-clause-scanned : goal.returns-in-Ok-clause-scanned
returns-in-Ok-clause-scanned g c = value_scanned _ _ _ _ _ c.in-Ok.value c.requires (rw c.new-env.ensures.items at c.in-Ok.ensures.value)

pub returns-in-Err-Overflow-clause-prints : goal.returns-in-Err-Overflow-clause-prints
returns-in-Err-Overflow-clause-prints g c =
    λ files ks ss marks t runs. value_past_end ks ss marks t _ _ _ _ files runs stop.Overflow _ (rw c.new-env.ensures.items at (rw (c.in-Err-Overflow.field-0-is, Partly) at c.in-Err-Overflow.ensures.value)) refl

pub returns-in-Err-Overflow-clause-scanned : goal.returns-in-Err-Overflow-clause-scanned
returns-in-Err-Overflow-clause-scanned g c = stop_scanned _ _ _ _ _ stop.Overflow (λ is. cc) (rw c.new-env.ensures.items at (rw (c.in-Err-Overflow.field-0-is, Partly) at c.in-Err-Overflow.ensures.value))

pub returns-in-Err-Driver-clause-prints : goal.returns-in-Err-Driver-clause-prints
returns-in-Err-Driver-clause-prints g c =
    λ files ks ss marks t runs. value_failed ks ss marks t _ _ _ _ files runs (stop.Driver c.in-Err-Driver.source c.in-Err-Driver.error) _ (rw (c.in-Err-Driver.field-0-is, Partly) at c.in-Err-Driver.ensures.value) c.in-Err-Driver.source c.in-Err-Driver.error _ refl (rw c.in-Err-Driver.field-0-is at c.driver_fault.ensures)

pub returns-in-Err-Driver-clause-scanned : goal.returns-in-Err-Driver-clause-scanned
returns-in-Err-Driver-clause-scanned g c = stop_scanned _ _ _ _ _ (stop.Driver c.in-Err-Driver.source c.in-Err-Driver.error) (λ is. cc) (rw (c.in-Err-Driver.field-0-is, Partly) at c.in-Err-Driver.ensures.value)

pub returns-clause-prints : goal.returns-clause-prints
returns-clause-prints g c = λ files ks ss marks t runs. value_lost ks ss marks t _ _ _ _ files runs stop.NoMemory _ (rw (c.in-Err-NoMemory.field-0-is, Partly) at c.in-Err-NoMemory.ensures.value) refl

pub returns-clause-scanned : goal.returns-clause-scanned
returns-clause-scanned g c = stop_scanned _ _ _ _ _ stop.NoMemory (λ is. cc) (rw (c.in-Err-NoMemory.field-0-is, Partly) at c.in-Err-NoMemory.ensures.value)
