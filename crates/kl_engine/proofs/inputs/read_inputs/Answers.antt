use Rattle.kl_engine.proofs.FileAnswers.{inputs_long, inputs_read, inputs_refused}
use Rattle.kl_engine.proofs.inputs.read_inputs.Goals as goal

pub returns-in-Ok : goal.returns-in-Ok
returns-in-Ok g c =
    rw c.of.ensures (inputs_read _ _ _ _ _ _ c.in-Ok-Bytes.text (rw (c.slice.ensures, c.in-Ok-Bytes.field-0-is) at c.in-Ok-Bytes.ensures) c.in-Ok.sources c.in-Ok.ensures)

pub returns-in-Err : goal.returns-in-Err
returns-in-Err g c = inputs_refused _ _ _ _ _ _ c.in-Ok-Bytes.text (rw (c.slice.ensures, c.in-Ok-Bytes.field-0-is) at c.in-Ok-Bytes.ensures) c.in-Err.fault c.in-Err.ensures

pub returns-in-Ok-TooLong : goal.returns-in-Ok-TooLong
returns-in-Ok-TooLong g c = inputs_long _ _ _ _ _ (rw (c.slice.ensures, c.in-Ok-TooLong.field-0-is) at c.in-Ok-TooLong.ensures)
